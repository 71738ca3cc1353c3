-- The cost of finding a recurrence.
use Rattle.std.specs.Prelude.{◌≡◌, ◌≢◌, ℕ, ◌+◌, ◌-◌, ◌*◌, ◌<◌, ◌≤◌, ◌^◌}

-- the cost of the shift of a long run: nothing if the period is the distance of the pair, else the period
pub record CountsShift (first second period old new : ℕ) : Type 0 where
  pub whole : period ≡ second - first → new ≡ old
  pub less : period ≢ second - first → new ≡ old + period

-- the cost of a run past 4,096 steps: both steps of the pair for the start and the last uses, at most four
-- times the distance times its logarithm to base 2 for the least period, and the shift
pub record CountsLong (first second period old new : ℕ) : Type 0 where
  pub tested : ℕ
  pub no_less : old + first + second ≤ tested
  pub primes : ℕ
  pub few_primes : 2 ^ primes ≤ second - first
  pub few_tests : tested ≤ old + first + second + primes * (4 * (second - first))
  pub shift : CountsShift first second period tested new

-- a shorter run is made once, up to the second step of the pair, and recorded
pub record CountsRecurrence (first second period old new : ℕ) : Type 0 where
  pub short : second ≤ 4096 → new ≡ old + second
  pub long : 4096 < second → CountsLong first second period old new

-- no more than that, with the distance for the period
pub record CountsAtMost (first second old new : ℕ) : Type 0 where
  pub primes : ℕ
  pub few_primes : 2 ^ primes ≤ second - first
  pub few : new ≤ old + first + second + (second - first) + primes * (4 * (second - first))
