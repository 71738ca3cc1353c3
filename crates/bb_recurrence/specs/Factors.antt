-- Trial division.
use Rattle.std.specs.Prelude.{◌≡◌, ℕ, ◌*◌, ◌%◌, ◌<◌, ◌≤◌}
use Rattle.laws_of_recurrence.specs.Seen.{IsPrime}

-- no number from 2 on below `bound` divides the number
abbrev pub HasNoneBelow : ℕ → ℕ → Type 0
HasNoneBelow number bound = (k : ℕ) → 1 < k → k < bound → number % k ≡ 0 → ⊥

-- the number divided by `divisor` as often as that goes; if it goes at all, it is at most half of the number
pub record IsPartWithout (number divisor rest : ℕ) : Type 0 where
  pub some : 0 < rest
  pub power : ℕ
  pub is : number ≡ power * rest
  pub by_divisor : (r : ℕ) → IsPrime r → power % r ≡ 0 → divisor % r ≡ 0
  pub no_more : rest % divisor ≡ 0 → ⊥
  pub half : number % divisor ≡ 0 → 2 * rest ≤ number
