-- The last uses of entries, step by step, and those of a state from its entries.
use Rattle.std.proofs.Common.{◌≡◌, ℕ, ◌+◌, ◌-◌, ◌*◌, ◌<◌, ◌≤◌, max, Option, Some, None, List, length, replicate}
use Rattle.std.proofs.Common.{inl, inr, refl, ap, sym, subst, ◌∙◌, slice_index_or, slice_set, arith}
use Rattle.std.proofs.Common.{get_or-set_same, get_or-set_other}
use Rattle.std.proofs.lemmas.Bool.{cases_eq, cases_lt}
use Rattle.std.proofs.lemmas.List.{get_or-replicate}
use Rattle.bb_machine.specs.declared.entry.Next.{Next}
use Rattle.bb_machine.specs.declared.entry.Next.TheVariants.{State}
use Rattle.bb_machine.specs.declared.machine.TheConstants.{MAX_SYMBOLS}
use Rattle.bb_machine.specs.Entry.{IsNextOf}
use Rattle.bb_machine.specs.Machine.{IsMachine, Table, symbols_of}
use Rattle.bb_sim.specs.Configuration.{Configuration}
use Rattle.bb_sim.specs.Run.{conf}
use Rattle.bb_sim.proofs.Facts.{run_named}
use Rattle.laws_of_recurrence.specs.Recurrence.{Transition, transition_at, transition_of}
use Rattle.laws_of_recurrence.proofs.Facts.{used_by}
use Rattle.laws_of_recurrence.specs.Uses.{IsLastUse, NeverUses, TablePart, Uses, of_state}
use Rattle.bb_recurrence.specs.declared.uses.LastUse.{LastUse}
use Rattle.bb_recurrence.specs.declared.uses.LastUse.TheVariants as last
use Rattle.bb_recurrence.specs.declared.uses.LastUses.{LastUses}
use Rattle.bb_recurrence.specs.LastUses.{AreSeenWhole, IsSeenUse, IsUse, IsUseBy, of_entry}
use Rattle.bb_recurrence.proofs.UseSteps.{never_used, not_used_here, one_state, unused_at_first, used_for_ever, used_here}
use Rattle.bb_recurrence.proofs.UseSteps.{used_last}

-- ---- one step more

pub none_seen : (table : Table) → IsMachine table → (q s : ℕ) → q < length table → s < symbols_of table
    → IsSeenUse table (of_entry q s) 0 (slice_index_or (replicate 250 0) (MAX_SYMBOLS * q + s) 0)
none_seen table machine q s below inside =
    let states = machine.states in
    let symbols = machine.symbols in
    subst (IsSeenUse table (of_entry q s) 0)
    (sym (get_or-replicate 250 (MAX_SYMBOLS * q + s) 0 0 (omega (arith, below, inside, states, symbols))))
    (unused_at_first table (of_entry q s))

-- an entry has its own place
pub same_state : (q s p r : ℕ) → s < MAX_SYMBOLS → r < MAX_SYMBOLS → MAX_SYMBOLS * q + s ≡ MAX_SYMBOLS * p + r
    → q ≡ p
same_state q s p r inside inside_too same = omega (arith, inside, inside_too, same)

pub same_symbol : (q s p r : ℕ) → s < MAX_SYMBOLS → r < MAX_SYMBOLS → MAX_SYMBOLS * q + s ≡ MAX_SYMBOLS * p + r
    → s ≡ r
same_symbol q s p r inside inside_too same = omega (arith, inside, inside_too, same)

module _ (table : Table) (after : List ℕ) (n p r q s : ℕ) (x : Transition) (at : transition_at table n ≡ Some x)
    (state : x.state ≡ State p) (symbol : x.symbol ≡ r) (few : r < MAX_SYMBOLS) (inside : s < MAX_SYMBOLS)
    (room : MAX_SYMBOLS * p + r < length after)
    (seen : IsSeenUse table (of_entry q s) n (slice_index_or after (MAX_SYMBOLS * q + s) 0)) where
  is_entry : q ≡ p → s ≡ r → x ≡ record { state = State q; symbol = s }
  is_entry same same_too =
      ap (λ (k : Next). let t : Transition = record { state = k; symbol = x.symbol } in t) (state ∙ ap State (sym same))
      ∙ ap (λ (k : ℕ). let t : Transition = record { state = State q; symbol = k } in t) (symbol ∙ sym same_too)

  apart : (MAX_SYMBOLS * q + s ≡ MAX_SYMBOLS * p + r → ⊥) → x ≡ record { state = State q; symbol = s } → ⊥
  apart other same =
      let one : State p ≡ State q = sym state ∙ ap (λ (t : Transition). t.state) same in
      let same_q : p ≡ q = one_state (State p) p q refl one in
      let same_s : r ≡ s = sym symbol ∙ ap (λ (t : Transition). t.symbol) same in
      other (omega (arith, same_q, same_s))

  pub recorded : IsSeenUse table (of_entry q s) (n + 1)
      (slice_index_or (slice_set after (MAX_SYMBOLS * p + r) (n + 1)) (MAX_SYMBOLS * q + s) 0)
  recorded = elim (cases_eq (MAX_SYMBOLS * q + s) (MAX_SYMBOLS * p + r)) [
    | inl same ↦
        subst (IsSeenUse table (of_entry q s) (n + 1))
        (sym (ap (λ k. slice_index_or (slice_set after (MAX_SYMBOLS * p + r) (n + 1)) k 0) same
        ∙ get_or-set_same after (MAX_SYMBOLS * p + r) (n + 1) 0 room))
        (used_here table (of_entry q s) n _ x at
        (is_entry (same_state q s p r inside few same) (same_symbol q s p r inside few same)) seen)
    | inr other ↦
        subst (IsSeenUse table (of_entry q s) (n + 1))
        (sym (get_or-set_other after (MAX_SYMBOLS * p + r) (MAX_SYMBOLS * q + s) (n + 1) 0 other))
        (not_used_here table (of_entry q s) n _ x at (apart other) seen)
  ]

-- ---- the states and symbols of a run

named_transition : (table : Table) → IsMachine table → (m : ℕ) (t : Transition) (found : Option Configuration)
    → conf table m ≡ found → transition_of found ≡ Some t
    → IsNextOf (length table) t.state × (t.symbol < symbols_of table)
named_transition table machine m t None at is = cc
named_transition table machine m t (Some c) at is =
    let named = run_named table machine m c at in
    let same : used_by c ≡ t = cc in (
      subst (λ (x : Transition). IsNextOf (length table) x.state) same named.state,
      subst (λ (x : Transition). x.symbol < symbols_of table) same (named.symbols c.head),
    )

pub names_table : (table : Table) → IsMachine table → (m : ℕ) (t : Transition) → transition_at table m ≡ Some t
    → IsNextOf (length table) t.state × (t.symbol < symbols_of table)
unfolding transition_at
names_table table machine m t at = named_transition table machine m t (conf table m) refl at

-- a state that isn't in the table
pub no_such_state : (table : Table) → IsMachine table → (q : ℕ) → length table ≤ q → NeverUses table (of_state q)
no_such_state table machine q past n uses =
    let named = names_table table machine n uses.transition uses.at in
    let below = subst (IsNextOf (length table)) uses.is_in named.0 in
    omega (arith, below, past)

-- ---- a state, by its entries

-- the uses seen of the first entries of a state
pub record IsSeenRow (table : Table) (q k n after : ℕ) : Type 0 where
  pub no_later : after ≤ n
  pub here : (m : ℕ) → after ≡ m + 1 → Uses table (of_state q) m
  pub none : (s m : ℕ) → s < k → after ≤ m → m < n → Uses table (of_entry q s) m → ⊥

pub row_at_first : (table : Table) (q n : ℕ) → IsSeenRow table q 0 n 0
row_at_first table q n = record {
  no_later = omega arith;
  here = λ m is. absurd (omega (arith, is));
  none = λ s m below late soon uses. absurd (omega (arith, below));
}

-- a use of an entry is one of its state
uses_state : (table : Table) (q s m : ℕ) → Uses table (of_entry q s) m → Uses table (of_state q) m
uses_state table q s m uses = record {
  transition = uses.transition;
  at = uses.at;
  is_in = ap (λ (t : Transition). t.state) uses.is_in;
}

module _ (table : Table) (q k n a b : ℕ) (row : IsSeenRow table q k n a)
    (entry : IsSeenUse table (of_entry q k) n b) where
  here_later : (m : ℕ) → max a b ≡ m + 1 → Uses table (of_state q) m
  here_later m is = elim (cases_lt a b) [
    | inl less ↦ uses_state table q k m (entry.here m (omega (arith, is, less)))
    | inr more ↦ row.here m (omega (arith, is, more))
  ]

  none_later : (s m : ℕ) → s < k + 1 → max a b ≤ m → m < n → Uses table (of_entry q s) m → ⊥
  none_later s m below late soon uses = elim (cases_lt s k) [
    | inl less ↦ row.none s m less (omega (arith, late)) soon uses
    | inr more ↦
        let e : s ≡ k = omega (arith, below, more) in
        entry.none m (omega (arith, late)) soon (subst (λ x. Uses table (of_entry q x) m) e uses)
  ]

  pub row_more : (c : ℕ) → c ≡ max a b → IsSeenRow table q (k + 1) n c
  row_more c is =
      let one = row.no_later in
      let two = entry.no_later in
      rw is (record { no_later = omega (arith, one, two); here = here_later; none = none_later })

-- a state is used by its entries only
pub seen_state : (table : Table) → IsMachine table → (q n after : ℕ) → IsSeenRow table q (symbols_of table) n after
    → IsSeenUse table (of_state q) n after
seen_state table machine q n after row = record {
  no_later = row.no_later;
  here = row.here;
  none = λ m late soon uses.
      let t = uses.transition in
      let named = names_table table machine m t uses.at in
      row.none t.symbol m named.1 late soon (record {
        transition = t;
        at = uses.at;
        is_in = ap (λ (k : Next). let x : Transition = record { state = k; symbol = t.symbol } in x) uses.is_in;
      });
}

-- ---- the last use, once a whole period is seen

pub use_is : (table : Table) (part : TablePart) (start after : ℕ) (uses : LastUses) (is : LastUse)
    (whole : AreSeenWhole table start uses) → IsSeenUse table part whole.made after → IsUseBy after start is
    → IsUse table part is
use_is table part start after uses last.Never whole seen none =
    never_used table part start whole.period whole.made after whole.repeats whole.whole seen none
use_is table part start after uses (last.Step n) whole seen by =
    let used = used_last table part start whole.period whole.made after whole.repeats whole.whole seen
    (let is = by.0 in omega (arith, is)) by.1 in
    let same : after - 1 ≡ n = (let is = by.0 in omega (arith, is)) in
    subst (IsLastUse table part) same used
use_is table part start after uses last.Forever whole seen late =
    used_for_ever table part start whole.period whole.made after whole.repeats whole.whole seen late
