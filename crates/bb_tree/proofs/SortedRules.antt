-- A table's rules, all of them, ordered by where they lead.
use Rattle.std.proofs.Common.{◌≡◌, ℕ, zero, suc, ◌+◌, ◌-◌, ◌*◌, ◌<◌, ◌≤◌, Bool, true, false, cond, inl, inr}
use Rattle.std.proofs.Common.{List, [], ◌∷◌, ◌++◌, length, get_or, take, slice_range, refl}
use Rattle.std.proofs.Common.{ap, sym, subst, ◌∙◌, append_assoc, append-nil, length-append, arith}
use Rattle.std.specs.Prelude.{nat_lt}
use Rattle.std.proofs.Math.Nat.{mul-le-mul_left}
use Rattle.std.specs.List.{AllByRecursion, count_by}
use Rattle.std.specs.List.Sorted.{IsPermutation}
use Rattle.std.proofs.lemmas.Bool.{cases_eq, lt-ltb, le-ltb}
use Rattle.std.proofs.lemmas.List.{drop_at, get_or_append_left, get_or_push, take_at}
use Rattle.std.proofs.lemmas.List.Sorted.{IsPermutation-sym, length_permutation}
use Rattle.std.proofs.lemmas.List.Sums.{count_by-le-length, length-filter, sum_by-cons}
use Rattle.bb_machine.specs.declared.machine.TheConstants.{MAX_STATES, MAX_SYMBOLS}
use Rattle.bb_machine.specs.declared.entry.Dir.TheVariants.{L, R}
use Rattle.bb_machine.specs.declared.entry.Next.{Next}
use Rattle.bb_machine.specs.declared.entry.Next.TheVariants.{State, Halt}
use Rattle.bb_machine.specs.declared.entry.Entry.{Entry}
use Rattle.bb_machine.specs.declared.entry.Entry.TheVariants.{Undefined, Go}
use Rattle.bb_machine.specs.Entry.{IsEntryOf}
use Rattle.bb_machine.specs.Machine.{Table, IsGroup, IsMachine, symbols_of}
use Rattle.bb_machine.proofs.Facts.{entry_named, every-append}
use Rattle.bb_tree.specs.declared.rules.Rule.{Rule}
use Rattle.bb_tree.specs.declared.rules.Rules.{Rules}
use Rattle.bb_tree.specs.Tree.{OneOf, goes_to, is_same, leads_to, rules_in, rules_from, rules_to}
use Rattle.bb_tree.specs.inside.Walk.{AddsAll, AddsRules, AreInOrder, AreRules, IsRange, IsRule, starts_of}
use Rattle.bb_tree.proofs.OneOf.{one_permuted}
use Rattle.bb_tree.proofs.RuleEntries.{one-in_table}
use Rattle.bb_tree.proofs.TreeEnds.{group_long}

-- what rules lead to has a place: each state its own, and Z the one after them
abbrev at_place : ℕ → ℕ → Next
at_place states n = cond (nat_lt n states) (State n) Halt

abbrev pub IsPlace : ℕ → ℕ → Next → Type 0
IsPlace states n next = (n ≤ states) × (next ≡ at_place states n)

pub state_place : {n states : ℕ} (count : ℕ) → n < count → count ≡ states → IsPlace states n (State n)
state_place {n} {states} count h e =
    let less : n < states = omega (arith, h, e) in
    (omega (arith, less), ap (λ b. cond b (State n) Halt) (sym (lt-ltb n states less)))

pub halt_place : {n states : ℕ} (count : ℕ) → n ≤ count → count ≤ n → count ≡ states → IsPlace states n Halt
halt_place {n} {states} count h past e =
    (omega (arith, h, e), ap (λ b. cond b (State n) Halt) (sym (le-ltb n states (omega (arith, past, e)))))

abbrev is_before : ℕ → ℕ → Next → Bool
is_before states n (State q) = nat_lt q n
is_before states n Halt = nat_lt states n

abbrev leads_before : ℕ → ℕ → Rule → Bool
leads_before states n rule = is_before states n (goes_to rule.entry)

counts_add : {X : Type 0} (p q s : X → Bool) → ((x : X) → cond (p x) 1 0 + cond (q x) 1 0 ≤ cond (s x) 1 0)
    → (xs : List X) → count_by p xs + count_by q xs ≤ count_by s xs
counts_add p q s each [] = omega arith
counts_add {X} p q s each (x ∷ xs) =
    let step : (t : X → Bool) → count_by t (x ∷ xs) ≡ cond (t x) 1 0 + count_by t xs =
    λ t. sum_by-cons (λ y. cond (t y) 1 0) x xs in
    omega (arith, each x, counts_add p q s each xs, step p, step q, step s)

here_or_before : (states n : ℕ) (to : Next) (b : Bool) → nat_lt n states ≡ b → n ≤ states
    → cond (is_same to (cond b (State n) Halt)) 1 0 + cond (is_before states n to) 1 0
    ≤ cond (is_before states (n + 1) to) 1 0
here_or_before states n (State q) true e h = grind arith
here_or_before states n (State q) false e h = grind arith
here_or_before states n Halt true e h = grind arith
here_or_before states n Halt false e h = grind arith

-- the rules are no more than the entries that a machine can have

row_long : (state symbol : ℕ) (group : List Entry) → length (rules_in state symbol group) ≡ length group
row_long state symbol [] = refl
row_long state symbol (entry ∷ entries) = let e = row_long state (symbol + 1) entries in omega (arith, e)

table_long : (states symbols state : ℕ) (table : Table) → AllByRecursion (IsGroup states symbols) table
    → length (rules_from state table) ≡ length table * symbols
table_long states symbols state [] all = omega arith
table_long states symbols state (group ∷ groups) all =
    let past = table_long states symbols (state + 1) groups all.1 in
    let row = row_long state 0 group in
    let full = (all.0).full in
    omega (arith, past, row, full, length-append (rules_in state 0 group) (rules_from (state + 1) groups))

all_fit : (table : Table) → IsMachine table → length (rules_from 0 table) ≤ MAX_STATES * MAX_SYMBOLS
all_fit table machine =
    let long = table_long (length table) (symbols_of table) 0 table machine.groups in
    let most = mul-le-mul_left (length table) machine.symbols in
    omega (arith, long, most, machine.states)

-- the rules name only states and symbols of their machine

more_symbols : (states symbols : ℕ) (entry : Entry) → symbols ≤ MAX_SYMBOLS → IsEntryOf states symbols entry
    → IsEntryOf states MAX_SYMBOLS entry
more_symbols states symbols Undefined h of_table = tt
more_symbols states symbols (Go write dir next) h of_table =
    (let w = of_table.0 in omega (arith, w, h), of_table.1)

in_table : (table : Table) (state symbol : ℕ) → symbol < length (get_or table state []) → state < length table
in_table [] state symbol h = absurd (omega (arith, h))
in_table (group ∷ groups) zero symbol h = omega arith
in_table (group ∷ groups) (suc state) symbol h = omega (arith, in_table groups state symbol h)

rule_named : (table : Table) (next : Next) (rule : Rule) → IsMachine table
    → OneOf (λ other. other ≡ rule) (rules_to table next) → IsRule (length table) rule
rule_named table next rule machine one =
    let found = one-in_table (λ other. other ≡ rule) table next one in
    let state = in_table table found.state found.symbol found.within in
    let long = group_long (length table) (symbols_of table) table machine.groups found.state state in
    let symbol : found.symbol < symbols_of table = omega (arith, long, found.within) in
    subst (IsRule (length table)) found.holds (record {
      state = state;
      symbol = omega (arith, symbol, machine.symbols);
      entry = more_symbols (length table) (symbols_of table) _ machine.symbols
          (entry_named MAX_STATES MAX_SYMBOLS table found.state found.symbol machine state symbol);
    })

each_named : {states : ℕ} (rules : List Rule)
    → ((rule : Rule) → OneOf (λ other. other ≡ rule) rules → IsRule states rule)
    → AllByRecursion (IsRule states) rules
each_named [] named = tt
each_named (rule ∷ rules) named = (named rule (inl refl), each_named rules (λ r one. named r (inr one)))

-- the rules that lead to the first n places were appended, and where those of each begin was put down
pub record AreGathered (table : Table) (before list : List Rule) (starts : List ℕ) (n : ℕ) : Type 0 where
  pub added : List Rule
  pub is : list ≡ before ++ added
  pub size : length added ≤ count_by (leads_before (length table) n) (rules_from 0 table)
  pub named : AllByRecursion (IsRule (length table)) added
  pub long : length starts ≡ n + 1
  pub last : get_or starts n 0 ≡ length list
  pub ranges : (q : ℕ) (more : List Rule) → q < n
      → IsRange table (list ++ more) (get_or starts q 0) (get_or starts (q + 1) 0) (at_place (length table) q)

pub gathering_begins : (table : Table) (list : List Rule) → AreGathered table list list (length list ∷ []) 0
gathering_begins table list = record {
  added = [];
  is = sym (append-nil list);
  size = omega arith;
  named = tt;
  long = omega arith;
  last = refl;
  ranges = λ q more h. absurd (omega (arith, h));
}

range_added : (table : Table) (list added more : List Rule) (next : Next)
    → IsPermutation (rules_to table next) added
    → IsRange table ((list ++ added) ++ more) (length list) (length (list ++ added)) next
range_added table list added more next are =
    let long = length-append list added in
    let here : length added ≡ length (list ++ added) - length list = omega (arith, long) in
    record {
      in_order = omega (arith, long);
      within = omega (arith, length-append (list ++ added) more);
      are = subst (IsPermutation (rules_to table next))
          (sym (ap (λ xs. slice_range xs (length list) (length (list ++ added)))
          (append_assoc list added more)
          ∙ ap (take (length (list ++ added) - length list)) (drop_at list (added ++ more) (length list) refl)
          ∙ take_at added more (length (list ++ added) - length list) here)) are;
    }

module _ {table : Table} (machine : IsMachine table) {before list : List Rule} {starts : List ℕ} {n : ℕ}
    (now : AreGathered table before list starts n) {next : Next} (place : IsPlace (length table) n next) where
  size_then : length now.added + length (rules_to table next)
      ≤ count_by (leads_before (length table) (n + 1)) (rules_from 0 table)
  size_then =
      let here = length-filter (leads_to next) (rules_from 0 table) in
      let both = counts_add (leads_to next) (leads_before (length table) n)
      (leads_before (length table) (n + 1))
      (λ r. rw place.1 (here_or_before (length table) n (goes_to r.entry) _ refl place.0))
      (rules_from 0 table) in
      omega (arith, here, both, now.size)

  pub room_for_more : (most : ℕ) → length before + MAX_STATES * MAX_SYMBOLS ≤ most
      → length list + length (rules_to table next) ≤ most
  room_for_more most room =
      let long = ap length now.is ∙ length-append before now.added in
      let few = count_by-le-length (leads_before (length table) (n + 1)) (rules_from 0 table) in
      omega (arith, long, few, size_then, all_fit table machine, room)

  pub gathering_goes_on : {then_list : List Rule} {then_starts : List ℕ}
      → AddsRules (rules_to table next) list then_list → then_starts ≡ starts ++ (length then_list ∷ [])
      → AreGathered table before then_list then_starts (n + 1)
  gathering_goes_on {then_list} {then_starts} adds put_down =
      let kept : (q : ℕ) → q ≤ n → get_or then_starts q 0 ≡ get_or starts q 0 = λ q h.
      ap (λ xs. get_or xs q 0) put_down ∙ get_or_append_left starts (length then_list ∷ []) 0 q
      (omega (arith, h, now.long)) in
      let end : get_or then_starts (n + 1) 0 ≡ length then_list =
      ap (λ xs. get_or xs (n + 1) 0) put_down ∙ get_or_push starts (length then_list) 0 (n + 1) now.long in
      record {
        added = now.added ++ adds.added;
        is = adds.is ∙ ap (λ xs. xs ++ adds.added) now.is ∙ append_assoc before now.added adds.added;
        size = omega (arith, length-append now.added adds.added, size_then, length_permutation _ _ adds.are);
        named = every-append (IsRule (length table)) now.added adds.added now.named
            (each_named adds.added (λ r one. rule_named table next r machine (one_permuted _ _ _
            (IsPermutation-sym _ _ adds.are) one)));
        long = omega (arith, ap length put_down, length-append starts (length then_list ∷ []), now.long);
        last = end;
        ranges = λ q more h. elim (cases_eq q n) [
          | inl same ↦ rw (same, end, kept n (omega arith), now.last, ← place.1, adds.is)
              (range_added table list adds.added more next adds.are)
          | inr apart ↦
              let less : q < n = omega (arith, h, apart) in
              rw (kept q (omega (arith, less)), kept (q + 1) (omega (arith, less)), adds.is)
              (rw (append_assoc list adds.added more) (now.ranges q (adds.added ++ more) less))
        ];
      }

  pub all_gathered : (count : ℕ) → n ≤ count → count ≤ n → count ≡ length table → {then_list : List Rule}
      {then_starts : List ℕ} → AddsRules (rules_to table next) list then_list
      → then_starts ≡ starts ++ (length then_list ∷ []) → AddsAll table before then_list then_starts
  all_gathered count h past e adds put_down =
      let all : n ≡ length table = omega (arith, h, past, e) in
      let then = gathering_goes_on adds put_down in
      let few = count_by-le-length (leads_before (length table) (n + 1)) (rules_from 0 table) in
      record {
        added = then.added;
        is = then.is;
        few = omega (arith, few, then.size, all_fit table machine);
        named = then.named;
        in_order = λ more. record {
          count = omega (arith, then.long, all);
          to_state = λ q less. rw (state_place (length table) less refl).1
              (then.ranges q more (omega (arith, less, all)));
          halting = rw (halt_place {n = length table} (length table) (omega arith) (omega arith) refl).1
              (then.ranges (length table) more (omega (arith, all)));
        };
      }

-- all rules were appended for one direction, and then for the other
pub both_added : {table : Table} {left : List Rule} (rules : Rules)
    → AddsAll table [] left rules.left_first.items
    → AddsAll table left rules.list.items rules.right_first.items
    → AreRules table rules.list.items (starts_of rules)
both_added {table} {left} rules once twice = record {
  named = rw twice.is (every-append (IsRule (length table)) left twice.added (rw once.is once.named)
      twice.named);
  in_order = λ first. elim first as (λ d. AreInOrder table rules.list.items (starts_of rules d)) [
    | L ↦ rw twice.is (once.in_order twice.added)
    | R ↦ rw (append-nil rules.list.items) at (twice.in_order [])
  ];
}
