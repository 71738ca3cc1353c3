-- The search for the least period.
use Rattle.std.specs.Prelude.{◌≡◌, ℕ, ◌+◌, ◌*◌, ◌≤◌, ◌^◌, Bool, true, false}
use Rattle.bb_machine.specs.Machine.{Table}
use Rattle.laws_of_recurrence.specs.Recurrence.{IsMultipleOf, Repeats}
use Rattle.laws_of_recurrence.specs.Seen.{Differs, IsPrime}

-- whether the run repeats from `first` on with this period
abbrev pub TellsPeriod : Table → ℕ → ℕ → Bool → Type 0
TellsPeriod table first period true = Repeats table first period
TellsPeriod table first period false = Differs table first period

-- whether a number that divides a known period is one too
abbrev pub TellsPart : Table → ℕ → ℕ → ℕ → Bool → Type 0
TellsPart table first known period true = IsMultipleOf period known × Repeats table first period
TellsPart table first known period false = IsMultipleOf period known → Differs table first period

-- a period; it divides a known one, and its quotient by the number is none
pub record IsReduced (table : Table) (first known divisor period : ℕ) : Type 0 where
  pub divides : IsMultipleOf period known
  pub repeats : Repeats table first period
  pub no_less : (less : ℕ) → period ≡ divisor * less → Differs table first less

-- a period; its quotient by any prime is none
pub record IsLeastFrom (table : Table) (first period : ℕ) : Type 0 where
  pub repeats : Repeats table first period
  pub no_less : (q less : ℕ) → IsPrime q → period ≡ q * less → Differs table first less

-- at most the logarithm of the distance, to base 2, times four times the distance was counted
pub record CountsTests (distance old new : ℕ) : Type 0 where
  pub primes : ℕ
  pub few_primes : 2 ^ primes ≤ distance
  pub counted : new ≤ old + primes * (4 * distance)
