-- The partner of a step or of a record, for comparison: this project's own.
use Rattle.std.specs.Prelude.{◌≡◌, ℕ, ◌+◌, ◌*◌, ◌^◌, ◌<◌, ◌≤◌, ◌⊎◌}

-- p is the greatest power of two below j
pub record IsPartner (p j : ℕ) : Type 0 where
  pub exponent : ℕ
  pub is_power : p ≡ 2 ^ exponent
  pub below : p < j
  pub greatest : j ≤ 2 * p

-- after n of them k is kept: nothing but the start at first, then the partner of the next one
abbrev pub IsKept : ℕ → ℕ → Type 0
IsKept k n = ((n ≡ 0) × (k ≡ 0)) ⊎ IsPartner k (n + 1)
