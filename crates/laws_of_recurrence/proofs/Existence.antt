-- A run that repeats has an exact start and period: the least ones. Other numbers differ within few steps.
use Rattle.std.proofs.Common.{◌≡◌, ◌≢◌, ℕ, ◌+◌, ◌-◌, ◌<◌, ◌≤◌, inl, inr, sym, subst, arith}
use Rattle.std.proofs.lemmas.Bool.{cases_lt}
use Rattle.bb_machine.specs.Machine.{Table}
use Rattle.laws_of_recurrence.specs.Recurrence.{ExactExists, Repeats, transition_at}
use Rattle.laws_of_recurrence.specs.Seen.{DifferenceIsSeen}
use Rattle.laws_of_recurrence.proofs.Decisions.{Decision, all_below, decide_steps, last_below, least_of}
use Rattle.laws_of_recurrence.proofs.Sequences.{Has, repeats_before, seen_by, seen_is_period, serves}

-- the step so many after a has the transition of the one q later
abbrev Comes : Table → ℕ → ℕ → ℕ → Type 0
Comes table a q n = transition_at table ((a + n) + q) ≡ transition_at table (a + n)

decide_comes : (table : Table) (a q n : ℕ) → Decision (Comes table a q n)
decide_comes table a q n = decide_steps (transition_at table ((a + n) + q)) (transition_at table (a + n))

-- so many steps from a on
from_step : (table : Table) (a q k : ℕ) → ((n : ℕ) → n < k → Comes table a q n) → (m : ℕ) → a ≤ m → m < a + k
    → transition_at table (m + q) ≡ transition_at table m
from_step table a q k all m late soon =
    let e : a + (m - a) ≡ m = omega (arith, late) in
    subst (λ n. transition_at table (n + q) ≡ transition_at table n) e
    (all (m - a) (omega (arith, late, soon)))

-- whether a run with a period from s on has another number as a period from there on
decide_period : (table : Table) (s p q : ℕ) → Repeats table s p → Decision (Has (transition_at table) s q)
decide_period table s p q repeats = elim (all_below (Comes table s q) (decide_comes table s q) p) [
  | inl all ↦ inl (λ n late. seen_by (transition_at table) s p q repeats.some repeats.again
      (from_step table s q p all) n n (omega arith) late)
  | inr not_all ↦ inr (λ has. not_all (λ n less. has (s + n) (omega arith)))
]

-- whether it has a period from another step on
decide_start : (table : Table) (s p a : ℕ) → Repeats table s p → Decision (Has (transition_at table) a p)
decide_start table s p a repeats = elim (all_below (Comes table a p) (decide_comes table a p) (s - a)) [
  | inl all ↦ inl (repeats_before (transition_at table) a s p repeats.again
      (λ n late soon. from_step table a p (s - a) all n late (omega (arith, late, soon))))
  | inr not_all ↦ inr (λ has. not_all (λ n less. has (a + n) (omega arith)))
]

-- a number above 0 that is a period from s on
abbrev IsPeriod : Table → ℕ → ℕ → Type 0
IsPeriod table s q = (0 < q) × Has (transition_at table) s q

decide_is_period : (table : Table) (s p q : ℕ) → Repeats table s p → Decision (IsPeriod table s q)
decide_is_period table s p q repeats = elim (cases_lt 0 q) [
  | inl some ↦ elim (decide_period table s p q repeats) [
    | inl has ↦ inl (some, has)
    | inr none ↦ inr (λ is. none is.1)
  ]
  | inr zero_period ↦ inr (λ is. let some = is.0 in absurd (omega (arith, some, zero_period)))
]

pub exact_exists : ExactExists
exact_exists table s p repeats =
    let e = transition_at table in
    let period = least_of (IsPeriod table s) (λ q. decide_is_period table s p q repeats) p
    (repeats.some, repeats.again) in
    let here : Repeats table s period.0 =
    record { some = period.1.has.0; never = repeats.never; again = period.1.has.1 } in
    let start = least_of (λ a. Has e a period.0) (λ a. decide_start table s period.0 a here) s here.again in (
      start.0,
      period.0,
      record {
        repeats = record { some = here.some; never = repeats.never; again = start.1.has };
        least_period = λ t q other.
            period.1.least q (other.some, serves e s p t q repeats.some repeats.again other.again);
        least_start = λ t q other.
            start.1.least t (serves e t q s period.0 other.some other.again here.again);
      },
    )

-- ---- a difference is seen

-- the step so many after `first` differs from the one `less` later, before `second`
abbrev DiffersAt : Table → ℕ → ℕ → ℕ → ℕ → Type 0
DiffersAt table first second less n = ((first + n) + less < second)
    × (transition_at table ((first + n) + less) ≢ transition_at table (first + n))

decide_differs : (table : Table) (first second less n : ℕ) → Decision (DiffersAt table first second less n)
decide_differs table first second less n = elim (cases_lt ((first + n) + less) second) [
  | inl soon ↦ elim (decide_comes table first less n) [
    | inl same ↦ inr (λ differs. differs.1 same)
    | inr apart ↦ inl (soon, apart)
  ]
  | inr late ↦ inr (λ differs. let soon = differs.0 in absurd (omega (arith, soon, late)))
]

pub difference_is_seen : DifferenceIsSeen
difference_is_seen table first second less in_order repeats divides differs =
    let e = transition_at table in
    elim (last_below (DiffersAt table first second less) (decide_differs table first second less) second) [
      | inl found ↦ (first + found.0, omega arith, found.1.has.0, found.1.has.1)
      | inr none ↦
          let end : first + (second - first) ≡ second = omega (arith, in_order) in
          absurd (differs (seen_is_period e first (second - first) less repeats.some divides repeats.again
          (λ m late soon. elim (decide_steps (e (m + less)) (e m)) [
            | inl same ↦ same
            | inr apart ↦
                let here : first + (m - first) ≡ m = omega (arith, late) in
                let within : m + less < second = subst (λ x. m + less < x) end soon in
                absurd (none (m - first) (omega (arith, within, late))
                (subst (λ k. (k + less < second) × (e (k + less) ≢ e k)) (sym here) (within, apart)))
          ])))
    ]
