-- The ends of a window, and of what two windows share, as numbers of 64 bits.
use Rattle.std.proofs.Common.{arith, ◌≡◌, ℕ, ◌+◌, ℤ, pos, negsuc, ◌-ℤ◌, ◌≤ℤ◌, w64, to_z, of_z}
use Rattle.std.proofs.lemmas.Int.{ints, clamps, to_z-of_z}
use Rattle.std.specs.Int.{int_min, int_max}
use mir.Val.{SFits}
use Rattle.bb_tape.specs.declared.tape.TheConstants.{MAX_CELLS}
use Rattle.bb_tape.specs.Window.{IsWindow}

pub narrow_fits : (z : ℤ) → (pos 0 -ℤ pos (MAX_CELLS + 2)) ≤ℤ z → z ≤ℤ pos (MAX_CELLS + 2) → SFits w64 z
narrow_fits (pos n) a b = record { sfits = omega (arith, ints) }
narrow_fits (negsuc n) a b = record { sfits = omega (arith, ints) }

pub low_fits : {low high : ℤ} {limit : ℕ} → IsWindow low high limit → SFits w64 low
low_fits {low = low} w = narrow_fits low (omega (arith, ints)) (omega (arith, ints))

pub high_fits : {low high : ℤ} {limit : ℕ} → IsWindow low high limit → SFits w64 high
high_fits {high = high} w = narrow_fits high (omega (arith, ints)) (omega (arith, ints))

pub min_is : {low p lo : ℤ} → SFits w64 low → SFits w64 p → lo ≡ int_min (to_z w64 (of_z w64 low))
    (to_z w64 (of_z w64 p)) → lo ≡ int_min low p
min_is f g e = simp to_z-of_z at e

pub max_is : {high p hi : ℤ} → SFits w64 high → SFits w64 p → hi ≡ int_max (to_z w64 (of_z w64 high))
    (to_z w64 (of_z w64 p)) → hi ≡ int_max high p
max_is f g e = simp to_z-of_z at e

-- two windows, and the ends of what they share
module _ (low high low2 high2 lo hi : ℤ) (limit limit2 : ℕ) (w : IsWindow low high limit)
    (v : IsWindow low2 high2 limit2) (el : lo ≡ int_max low low2) (eh : hi ≡ int_min high high2) where
  pub shared_low_fits : SFits w64 lo
  shared_low_fits = narrow_fits lo (omega (arith, ints, clamps)) (omega (arith, ints, clamps))

  pub shared_high_fits : SFits w64 hi
  shared_high_fits = narrow_fits hi (omega (arith, ints, clamps)) (omega (arith, ints, clamps))

  pub shared_valid : IsWindow lo hi limit
  shared_valid = omega (arith, ints, clamps)
