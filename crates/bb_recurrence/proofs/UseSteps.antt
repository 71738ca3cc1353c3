-- The last use of a part of a table, step by step.
use Rattle.std.proofs.Common.{◌≡◌, ℕ, ◌+◌, ◌-◌, ◌<◌, ◌≤◌, Some, inl, inr, subst, arith}
use Rattle.std.proofs.lemmas.Bool.{cases_lt}
use Rattle.bb_machine.specs.declared.entry.Next.{Next}
use Rattle.bb_machine.specs.declared.entry.Next.TheVariants.{State}
use Rattle.bb_machine.specs.Machine.{Table}
use Rattle.laws_of_recurrence.specs.Recurrence.{Transition, transition_at, Repeats}
use Rattle.laws_of_recurrence.specs.Uses.{IsIn, IsLastUse, NeverUses, TablePart, Uses, UsesForEver}
use Rattle.laws_of_recurrence.proofs.Facts.{comes_in_period, last_use_is_seen, unused_is_seen}
use Rattle.laws_of_recurrence.proofs.Facts.{used_for_ever_just_in_period}
use Rattle.bb_recurrence.specs.LastUses.{IsSeenUse}

-- before the first step nothing is used
pub unused_at_first : (table : Table) (part : TablePart) → IsSeenUse table part 0 0
unused_at_first table part = record {
  no_later = omega arith;
  here = λ m is. absurd (omega (arith, is));
  none = λ m late soon. absurd (omega (arith, soon));
}

-- a step uses the part that its transition is in
used_in : (table : Table) (part : TablePart) (n : ℕ) (x : Transition) → transition_at table n ≡ Some x
    → Uses table part n → IsIn part x
used_in table part n x at uses =
    let at_use = uses.at in
    let one : uses.transition ≡ x = cc in
    subst (IsIn part) one uses.is_in

-- one step more, that uses the part
pub used_here : (table : Table) (part : TablePart) (n after : ℕ) (x : Transition)
    → transition_at table n ≡ Some x → IsIn part x → IsSeenUse table part n after
    → IsSeenUse table part (n + 1) (n + 1)
used_here table part n after x at is seen = record {
  no_later = omega arith;
  here = λ m next.
      let e : n ≡ m = omega (arith, next) in
      subst (Uses table part) e (record { transition = x; at = at; is_in = is });
  none = λ m late soon. absurd (omega (arith, late, soon));
}

-- one that doesn't
pub not_used_here : (table : Table) (part : TablePart) (n after : ℕ) (x : Transition)
    → transition_at table n ≡ Some x → (IsIn part x → ⊥) → IsSeenUse table part n after
    → IsSeenUse table part (n + 1) after
not_used_here table part n after x at is_not seen =
    let few = seen.no_later in
    record {
      no_later = omega (arith, few);
      here = seen.here;
      none = λ m late soon uses. elim (cases_lt m n) [
        | inl less ↦ seen.none m late less uses
        | inr more ↦
            let e : m ≡ n = omega (arith, soon, more) in
            is_not (used_in table part n x at (subst (Uses table part) e uses))
      ];
    }

-- no state is two
pub one_state : (x : Next) (p q : ℕ) → x ≡ State p → x ≡ State q → p ≡ q
one_state x p q is is_too = cc

-- ---- after the first period

-- a use from the start on comes again for ever
uses_on : (table : Table) (part : TablePart) (start period n : ℕ) → Repeats table start period → start ≤ n
    → Uses table part n → UsesForEver table part
uses_on table part start period n repeats late uses =
    (used_for_ever_just_in_period table part start period repeats).1
    (comes_in_period table part start period n repeats late uses)

module _ (table : Table) (part : TablePart) (start period made after : ℕ) (repeats : Repeats table start period)
    (whole : start + period ≤ made) (seen : IsSeenUse table part made after) where
  pub never_used : after ≡ 0 → NeverUses table part
  never_used is = unused_is_seen table part start period repeats
      (λ m soon uses. seen.none m (omega (arith, is)) (omega (arith, soon, whole)) uses)

  pub used_for_ever : start < after → UsesForEver table part
  used_for_ever late =
      let e : after ≡ (after - 1) + 1 = omega (arith, late) in
      uses_on table part start period (after - 1) repeats (omega (arith, late)) (seen.here (after - 1) e)

  pub used_last : (0 < after) → after ≤ start → IsLastUse table part (after - 1)
  used_last some early =
      let e : after ≡ (after - 1) + 1 = omega (arith, some) in
      last_use_is_seen table part start period (after - 1) repeats (omega (arith, some, early))
      (seen.here (after - 1) e)
      (λ m later soon uses. seen.none m (omega (arith, later)) (omega (arith, soon, whole)) uses)
