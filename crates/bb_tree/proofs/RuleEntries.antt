-- The rules of a table are its entries.
use Rattle.std.proofs.Common.{◌≡◌, ℕ, zero, suc, ◌+◌, ◌<◌, true, inl, inr, List, [], ◌∷◌, length, get_or}
use Rattle.std.proofs.Common.{refl, ap, arith}
use Rattle.std.proofs.lemmas.Bool.{eqb-true, eq-eqb}
use Rattle.bb_machine.specs.declared.entry.Next.{Next}
use Rattle.bb_machine.specs.declared.entry.Next.TheVariants.{State, Halt}
use Rattle.bb_machine.specs.declared.entry.Entry.{Entry}
use Rattle.bb_machine.specs.declared.entry.Entry.TheVariants.{Undefined}
use Rattle.bb_machine.specs.Machine.{Table, entry_of}
use Rattle.bb_tree.specs.declared.rules.Rule.{Rule}
use Rattle.bb_tree.specs.Tree.{OneOf, rules_in, rules_from, goes_to, is_same, rules_to}
use Rattle.bb_tree.proofs.OneOf.{one-append, one-filter}

pub is_same-true : (a b : Next) → is_same a b ≡ true → a ≡ b
is_same-true (State p) (State q) e = ap State (eqb-true p q e)
is_same-true (State p) Halt e = absurd cc
is_same-true Halt (State q) e = absurd cc
is_same-true Halt Halt e = refl

pub is_same-itself : (a b : Next) → a ≡ b → is_same a b ≡ true
is_same-itself (State p) (State q) e = let same : p ≡ q = cc in eq-eqb p q same
is_same-itself (State p) Halt e = absurd cc
is_same-itself Halt (State q) e = absurd cc
is_same-itself Halt Halt e = refl

abbrev pub rule : ℕ → ℕ → Entry → Rule
rule state symbol entry = record { state = state; symbol = symbol; entry = entry }

-- P holds of the rule of an entry in a group
record InGroup (P : Rule → Type 0) (state symbol : ℕ) (group : List Entry) : Type 0 where
  index : ℕ
  within : index < length group
  holds : P (rule state (symbol + index) (get_or group index Undefined))

one-in_group : (P : Rule → Type 0) (state symbol : ℕ) (group : List Entry)
    → OneOf P (rules_in state symbol group) → InGroup P state symbol group
one-in_group P state symbol [] one = absurd one
one-in_group P state symbol (entry ∷ entries) (inl p) =
    let e : symbol + zero ≡ symbol = omega arith in
    record { index = zero; within = omega arith; holds = rw e p }
one-in_group P state symbol (entry ∷ entries) (inr one) =
    let further = one-in_group P state (symbol + 1) entries one in
    let e : symbol + suc further.index ≡ (symbol + 1) + further.index = omega arith in
    record { index = suc further.index; within = omega (arith, further.within); holds = rw e further.holds }

one-group : (P : Rule → Type 0) (state symbol : ℕ) (group : List Entry) (index : ℕ) → index < length group
    → P (rule state (symbol + index) (get_or group index Undefined)) → OneOf P (rules_in state symbol group)
one-group P state symbol [] index within p = absurd (omega (arith, within))
one-group P state symbol (entry ∷ entries) zero within p =
    let e : symbol + zero ≡ symbol = omega arith in
    inl (rw e at p)
one-group P state symbol (entry ∷ entries) (suc index) within p =
    let e : symbol + suc index ≡ (symbol + 1) + index = omega arith in
    inr (one-group P state (symbol + 1) entries index (omega (arith, within)) (rw e at p))

-- P holds of the rule of an entry in a table's groups
record InGroups (P : Rule → Type 0) (state : ℕ) (groups : Table) : Type 0 where
  index : ℕ
  symbol : ℕ
  within : symbol < length (get_or groups index [])
  holds : P (rule (state + index) symbol (entry_of groups index symbol))

one-in_groups : (P : Rule → Type 0) (state : ℕ) (groups : Table) → OneOf P (rules_from state groups)
    → InGroups P state groups
one-in_groups P state [] one = absurd one
one-in_groups P state (group ∷ groups) one =
    elim ((one-append P (rules_in state 0 group) (rules_from (state + 1) groups)).0 one) [
      | inl here ↦
          let found = one-in_group P state 0 group here in
          let e : state + zero ≡ state = omega arith in
          let n : 0 + found.index ≡ found.index = omega arith in
          record {
            index = zero;
            symbol = found.index;
            within = found.within;
            holds = rw e (rw n at found.holds);
          }
      | inr there ↦
          let further = one-in_groups P (state + 1) groups there in
          let e : state + suc further.index ≡ (state + 1) + further.index = omega arith in
          record {
            index = suc further.index;
            symbol = further.symbol;
            within = further.within;
            holds = rw e further.holds;
          }
    ]

one-groups : (P : Rule → Type 0) (state : ℕ) (groups : Table) (index symbol : ℕ)
    → symbol < length (get_or groups index [])
    → P (rule (state + index) symbol (entry_of groups index symbol)) → OneOf P (rules_from state groups)
one-groups P state [] index symbol within p = absurd (omega (arith, within))
one-groups P state (group ∷ groups) zero symbol within p =
    let e : state + zero ≡ state = omega arith in
    let n : 0 + symbol ≡ symbol = omega arith in
    (one-append P (rules_in state 0 group) (rules_from (state + 1) groups)).1
    (inl (one-group P state 0 group symbol within (rw n (rw e at p))))
one-groups P state (group ∷ groups) (suc index) symbol within p =
    let e : state + suc index ≡ (state + 1) + index = omega arith in
    (one-append P (rules_in state 0 group) (rules_from (state + 1) groups)).1
    (inr (one-groups P (state + 1) groups index symbol within (rw e at p)))

-- P holds of the rule of an entry in a table that leads to a state, or halts
pub record InTable (P : Rule → Type 0) (table : Table) (next : Next) : Type 0 where
  pub state : ℕ
  pub symbol : ℕ
  pub within : symbol < length (get_or table state [])
  pub leads : goes_to (entry_of table state symbol) ≡ next
  pub holds : P (rule state symbol (entry_of table state symbol))

pub one-in_table : (P : Rule → Type 0) (table : Table) (next : Next) → OneOf P (rules_to table next)
    → InTable P table next
one-in_table P table next one =
    let found = one-in_groups (λ r. (is_same (goes_to r.entry) next ≡ true) × P r) 0 table
    ((one-filter P (λ r. is_same (goes_to r.entry) next) (rules_from 0 table)).0 one) in
    let e : 0 + found.index ≡ found.index = omega arith in
    let entry = entry_of table found.index found.symbol in
    record {
      state = found.index;
      symbol = found.symbol;
      within = found.within;
      leads = is_same-true (goes_to entry) next found.holds.0;
      holds = rw e at found.holds.1;
    }

pub one-table : (P : Rule → Type 0) (table : Table) (next : Next) → InTable P table next
    → OneOf P (rules_to table next)
one-table P table next found =
    let e : 0 + found.state ≡ found.state = omega arith in
    let entry = entry_of table found.state found.symbol in
    (one-filter P (λ r. is_same (goes_to r.entry) next) (rules_from 0 table)).1
    (one-groups (λ r. (is_same (goes_to r.entry) next ≡ true) × P r) 0 table found.state found.symbol
    found.within (is_same-itself (goes_to entry) next found.leads, rw e found.holds))
