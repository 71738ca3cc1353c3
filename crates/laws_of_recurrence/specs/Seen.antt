-- A certificate of an exact start and period, in a run known to repeat. It compares the transitions of
-- finitely many steps: differences are among them too (`DifferenceIsSeen`). These notions are this project's
-- own.
use Rattle.std.specs.Prelude.{◌≡◌, ◌≢◌, ℕ, ◌+◌, ◌-◌, ◌*◌, ◌<◌, ◌≤◌, ◌⊎◌}
use Rattle.bb_machine.specs.Machine.{Table}
use Rattle.laws_of_recurrence.specs.Recurrence.{IsMultipleOf, Repeats, RepeatsExactly, transition_at}

-- a number above 1 that is a product of 1 and itself only
pub record IsPrime (q : ℕ) : Type 0 where
  pub above : 1 < q
  pub only : (d e : ℕ) → q ≡ d * e → (d ≡ 1) ⊎ (e ≡ 1)

-- not every step from `first` on uses the transition of the step `distance` later
abbrev pub Differs : Table → ℕ → ℕ → Type 0
Differs table first distance =
    ((n : ℕ) → first ≤ n → transition_at table (n + distance) ≡ transition_at table n) → ⊥

-- each step from `start` to `first` uses the transition of the step `distance` later, and the step before
-- `start` doesn't
pub record IsSeenStart (table : Table) (first distance start : ℕ) : Type 0 where
  pub no_later : start ≤ first
  pub same : (n : ℕ) → start ≤ n → n < first → transition_at table (n + distance) ≡ transition_at table n
  pub differs : (n : ℕ) → start ≡ n + 1 → transition_at table (n + distance) ≢ transition_at table n

-- the certificate of a run that repeats from `first` on with the period `second - first`: the period divides
-- that, and the steps from `first` to `second` repeat with it; the run doesn't repeat with the period divided
-- by a prime; and `start` is as early as transitions repeat
pub record IsSeenExact (table : Table) (first second start period : ℕ) : Type 0 where
  pub some : 0 < period
  pub divides : IsMultipleOf period (second - first)
  pub same : (n : ℕ) → first ≤ n → n + period < second
      → transition_at table (n + period) ≡ transition_at table n
  pub no_less : (q less : ℕ) → IsPrime q → period ≡ q * less → Differs table first less
  pub begins : IsSeenStart table first (second - first) start

-- the start and period of a certificate are exact
abbrev pub SeenIsExact : Type 0
SeenIsExact = (table : Table) (first second start period : ℕ) → first < second
    → Repeats table first (second - first) → IsSeenExact table first second start period
    → RepeatsExactly table start period

-- an exact start and period have a certificate, by any two steps between which the run repeats
abbrev pub ExactIsSeen : Type 0
ExactIsSeen = (table : Table) (first second start period : ℕ) → first < second
    → Repeats table first (second - first) → RepeatsExactly table start period
    → IsSeenExact table first second start period

-- if a divisor of a period is no period, two steps before `second` differ
abbrev pub DifferenceIsSeen : Type 0
DifferenceIsSeen = (table : Table) (first second less : ℕ) → first < second
    → Repeats table first (second - first) → IsMultipleOf less (second - first) → Differs table first less
    → (n : ℕ) × (first ≤ n) × (n + less < second) × (transition_at table (n + less) ≢ transition_at table n)
