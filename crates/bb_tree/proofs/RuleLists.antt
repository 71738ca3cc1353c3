-- A table's rules, gathered row by row and ordered by where they lead.
use Rattle.std.proofs.Common.{◌≡◌, ℕ, ◌+◌, ◌-◌, ◌<◌, ◌≤◌, false, cond, inl, inr, List, [], ◌∷◌}
use Rattle.std.proofs.Common.{◌++◌, length, get_or, take, drop, refl, ap, sym, ◌∙◌, append_assoc}
use Rattle.std.proofs.Common.{append-nil, length-append, arith}
use Rattle.std.specs.List.{filter, refill}
use Rattle.std.specs.List.Sorted.{IsPermutation}
use Rattle.std.proofs.lemmas.Bool.{cases_Bool}
use Rattle.std.proofs.lemmas.List.{drop_more, drop_all, drop_at, take_at, take_all}
use Rattle.std.proofs.lemmas.List.Sorted.{length_permutation}
use Rattle.std.proofs.lemmas.List.Elements.{filter-append}
use Rattle.bb_machine.specs.declared.entry.Next.{Next}
use Rattle.bb_machine.specs.declared.entry.Entry.{Entry}
use Rattle.bb_machine.specs.declared.entry.Entry.TheVariants.{Undefined}
use Rattle.bb_machine.specs.Machine.{Table, IsMachine, symbols_of}
use Rattle.bb_tree.specs.declared.rules.Rule.{Rule}
use Rattle.bb_tree.specs.Tree.{goes_to, is_same, leads_to, rules_in, rules_from}
use Rattle.bb_tree.specs.inside.Walk.{AddsRules}
use Rattle.bb_tree.proofs.TreeEnds.{group_long}
use Rattle.bb_tree.proofs.RuleEntries.{rule, is_same-true, is_same-itself}

pub differs : (a b : Next) → (a ≡ b → ⊥) → is_same a b ≡ false
differs a b apart = elim (cases_Bool (is_same a b)) [
  | inl e ↦ absurd (apart
      (is_same-true a b e))
  | inr e ↦ e
]

-- one entry of a row, as the code read it

module _ (next : Next) (state symbol : ℕ) (group : List Entry) (within : symbol < length group)
    (entry : Entry) (is : entry ≡ get_or group symbol Undefined) where
  abbrev here : List Rule
  here = rule state symbol entry ∷ []

  abbrev further : List Rule
  further = filter (leads_to next) (rules_in state (symbol + 1) (drop (symbol + 1) group))

  row_step : filter (leads_to next) (rules_in state symbol (drop symbol group))
      ≡ cond (is_same (goes_to entry) next) (rule state symbol entry ∷ further) further
  row_step = rw is (ap (λ es. filter (leads_to next) (rules_in state symbol es))
      (drop_more group symbol Undefined within))

  pub pushed_keeps : (list then_list all : List Rule) → goes_to entry ≡ next → then_list ≡ list ++ here
      → list ++ filter (leads_to next) (rules_in state symbol (drop symbol group)) ≡ all
      → then_list ++ further ≡ all
  pushed_keeps list then_list all leads pushed so_far =
      rw pushed (append_assoc list here further
      ∙ ap (λ b. list ++ cond b (rule state symbol entry ∷ further) further)
      (sym (is_same-itself (goes_to entry) next leads)) ∙ ap (λ l. list ++ l) (sym row_step) ∙ so_far)

  pub passed_keeps : (list then_list all : List Rule) → (goes_to entry ≡ next → ⊥) → then_list ≡ list
      → list ++ filter (leads_to next) (rules_in state symbol (drop symbol group)) ≡ all
      → then_list ++ further ≡ all
  passed_keeps list then_list all apart kept so_far =
      rw kept (ap (λ b. list ++ cond b (rule state symbol entry ∷ further) further)
      (sym (differs (goes_to entry) next apart)) ∙ ap (λ l. list ++ l) (sym row_step) ∙ so_far)

  pub pushed_room : (list olds more : List Rule) (most : ℕ) → goes_to entry ≡ next
      → list ++ filter (leads_to next) (rules_in state symbol (drop symbol group)) ≡ olds ++ more
      → length olds + length more ≤ most → length list < most
  pushed_room list olds more most leads so_far room =
      let n = ap length (pushed_keeps list (list ++ here) (olds ++ more) leads refl so_far) in
      let a = length-append (list ++ here) further in
      omega (arith, n, a, length-append list here, length-append olds more, room)

pub in_row : (table : Table) (state symbol symbols : ℕ) → IsMachine table → state < length table
    → symbols ≡ symbols_of table → symbol < symbols → symbol < length (get_or table state [])
in_row table state symbol symbols machine in_states e less =
    omega (arith, group_long (length table) (symbols_of table) table machine.groups state in_states, e, less)

pub past_row : (table : Table) (state symbol symbols : ℕ) → IsMachine table → state < length table
    → symbols ≡ symbols_of table → symbols ≤ symbol → length (get_or table state []) ≤ symbol
past_row table state symbol symbols machine in_states e past =
    omega (arith, group_long (length table) (symbols_of table) table machine.groups state in_states, e, past)

pub row_ends : (next : Next) (state symbol : ℕ) (group : List Entry) (list all : List Rule)
    → length group ≤ symbol → list ++ filter (leads_to next) (rules_in state symbol (drop symbol group))
    ≡ all → list ≡ all
row_ends next state symbol group list all past e =
    sym (append-nil list) ∙ ap (λ es. list ++ filter (leads_to next) (rules_in state symbol es)) (sym
    (drop_all symbol group past)) ∙ e

-- one row of a table

module _ (next : Next) (state : ℕ) (table : Table) (within : state < length table) where
  abbrev row : List Rule
  row = filter (leads_to next) (rules_in state 0 (get_or table state []))

  abbrev rows : List Rule
  rows = filter (leads_to next) (rules_from (state + 1) (drop (state + 1) table))

  pub table_keeps : (list then_list all : List Rule) → then_list ≡ list ++ row
      → list ++ filter (leads_to next) (rules_from state (drop state table)) ≡ all → then_list ++ rows ≡ all
  table_keeps list then_list all e so_far =
      let step = ap (λ gs. filter (leads_to next) (rules_from state gs)) (drop_more table state [] within)
      ∙ filter-append (leads_to next) (rules_in state 0 (get_or table state []))
      (rules_from (state + 1) (drop (state + 1) table)) in
      rw e (append_assoc list row rows ∙ ap (λ l. list ++ l) (sym step) ∙ so_far)

  pub rows_room : (list olds more : List Rule) (most : ℕ)
      → list ++ filter (leads_to next) (rules_from state (drop state table)) ≡ olds ++ more
      → length olds + length more ≤ most → length list + length row ≤ most
  rows_room list olds more most so_far room =
      let n = ap length (table_keeps list (list ++ row) (olds ++ more) refl so_far) in
      let long = length-append (list ++ row) rows in
      omega (arith, n, long, length-append list row, length-append olds more, room)

-- the end of a list was put in order, in place
pub put_in_order : (olds rules list seen : List Rule) (from : ℕ) → list ≡ olds ++ rules → seen ≡ list
    → from ≡ length olds → (sorted : List Rule)
    → IsPermutation (take (length seen - from) (drop from seen)) sorted
    → AddsRules rules olds (refill (length list) list
    (take from seen ++ (sorted ++ drop (length seen - from) (drop from seen))))
put_in_order olds rules list seen from is same at sorted moved =
    let front : take from seen ≡ olds = ap (take from) (same ∙ is) ∙ take_at olds rules from (sym at) in
    let end : drop from seen ≡ rules = ap (drop from) (same ∙ is) ∙ drop_at olds rules from (sym at) in
    let long = ap length is ∙ length-append olds rules in
    let count : length seen - from ≡ length rules = omega (arith, ap length same, long, at) in
    let are : IsPermutation rules sorted =
    rw (count, end, take_all (length rules) rules (omega arith)) at moved in
    let most : length (olds ++ sorted) ≡ length list =
    omega (arith, length-append olds sorted, long, length_permutation rules sorted are) in
    record {
      added = sorted;
      is = rw (front, count, end, drop_all (length rules) rules (omega arith), append-nil sorted)
          (take_at (olds ++ sorted) (drop (length (olds ++ sorted)) list) (length list) most);
      are = are;
    }

-- no row is left
pub rows_end : (next : Next) (state : ℕ) (table : Table) (list all : List Rule) → length table ≤ state
    → list ++ filter (leads_to next) (rules_from state (drop state table)) ≡ all → list ≡ all
rows_end next state table list all past e =
    sym (append-nil list) ∙ ap (λ gs. list ++ filter (leads_to next) (rules_from state gs)) (sym
    (drop_all state table past)) ∙ e
