-- The start of the same transitions in two copies of a run, one step more.
use Rattle.std.proofs.Common.{◌≡◌, ◌≢◌, ℕ, ◌+◌, ◌<◌, ◌≤◌, ◌↔◌, Bool, true, false, IsTrue, MatchBool, Some, inl, inr, refl, sym, subst}
use Rattle.std.proofs.Common.{arith}
use Rattle.std.proofs.lemmas.Bool.{cases_lt}
use Rattle.bb_machine.specs.Machine.{Table}
use Rattle.laws_of_recurrence.specs.Recurrence.{Transition, transition_at}
use Rattle.laws_of_recurrence.specs.Seen.{Differs, IsSeenStart}

same_of : (table : Table) (n m : ℕ) (x y : Transition) → transition_at table n ≡ Some x → transition_at table m ≡ Some y
    → x ≡ y → transition_at table m ≡ transition_at table n
same_of table n m x y at_n at_m same = cc

differ_of : (table : Table) (n m : ℕ) (x y : Transition) → transition_at table n ≡ Some x → transition_at table m ≡ Some y
    → (x ≡ y → ⊥) → transition_at table m ≢ transition_at table n
differ_of table n m x y at_n at_m apart same = apart cc

pub seen_on : (table : Table) (n distance start start' : ℕ) (x y : Transition) (same : Bool)
    → transition_at table n ≡ Some x → transition_at table (n + distance) ≡ Some y
    → (IsTrue same ↔ (x ≡ y)) → MatchBool same (start' ≡ start) (start' ≡ n + 1)
    → IsSeenStart table n distance start → IsSeenStart table (n + 1) distance start'
seen_on table n distance start start' x y true at_n at_m tells is seen =
    let here = same_of table n (n + distance) x y at_n at_m (tells.0 refl) in
    let no_later = seen.no_later in
    subst (IsSeenStart table (n + 1) distance) (sym is) (record {
      no_later = omega (arith, no_later);
      same = λ m late soon. elim (cases_lt m n) [
        | inl less ↦ seen.same m late less
        | inr more ↦
            let e : n ≡ m = omega (arith, soon, more) in
            subst (λ k. transition_at table (k + distance) ≡ transition_at table k) e here
      ];
      differs = seen.differs;
    })
seen_on table n distance start start' x y false at_n at_m tells is seen =
    let here = differ_of table n (n + distance) x y at_n at_m (λ e. let t = tells.1 e in cc) in
    record {
      no_later = omega (arith, is);
      same = λ m late soon. absurd (omega (arith, late, soon, is));
      differs = λ m next.
          let e : n ≡ m = omega (arith, next, is) in
          subst (λ k. transition_at table (k + distance) ≢ transition_at table k) e here;
    }

-- the same in a stretch, one step more
pub same_on : (table : Table) (first n distance : ℕ) (x y : Transition) → transition_at table n ≡ Some x
    → transition_at table (n + distance) ≡ Some y → x ≡ y
    → ((m : ℕ) → first ≤ m → m < n → transition_at table (m + distance) ≡ transition_at table m)
    → (m : ℕ) → first ≤ m → m < n + 1 → transition_at table (m + distance) ≡ transition_at table m
same_on table first n distance x y at_n at_m same before m late soon = elim (cases_lt m n) [
  | inl less ↦ before m late less
  | inr more ↦
      let e : n ≡ m = omega (arith, soon, more) in
      subst (λ k. transition_at table (k + distance) ≡ transition_at table k) e
      (same_of table n (n + distance) x y at_n at_m same)
]

-- a step from `first` on with another transition than so many steps later
pub differs_at : (table : Table) (first n distance : ℕ) (x y : Transition) → transition_at table n ≡ Some x
    → transition_at table (n + distance) ≡ Some y → (x ≡ y → ⊥) → first ≤ n → Differs table first distance
differs_at table first n distance x y at_n at_m apart late all =
    differ_of table n (n + distance) x y at_n at_m apart (all n late)
