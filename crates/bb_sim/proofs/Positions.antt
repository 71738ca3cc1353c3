-- Facts on the least and greatest positions of a run, over the definitions alone.
use Rattle.std.proofs.Common.{◌≡◌, ℕ, zero, suc, ◌+◌, ◌≤◌, ℤ, pos, negsuc, ◌+ℤ◌, ◌-ℤ◌, ◌≤ℤ◌, refl, add-one}
use Rattle.std.proofs.Common.{arith}
use Rattle.std.specs.Int.{int_min, int_max}
use Rattle.std.specs.Int.RustNames.{unsigned_abs}
use Rattle.std.proofs.lemmas.Int.{ints, clamps}
use Rattle.bb_sim.specs.CellsBetween.{cells_between}
use Rattle.bb_sim.specs.Span.{least, greatest}

pub least-next : (f : ℕ → ℤ) (n : ℕ) → least f (n + 1) ≡ int_min (least f n) (f (n + 1))
least-next f n = rw add-one refl

pub greatest-next : (f : ℕ → ℤ) (n : ℕ) → greatest f (n + 1) ≡ int_max (greatest f n) (f (n + 1))
greatest-next f n = rw add-one refl

pub min_right : (a b : ℤ) → int_min a b ≤ℤ b
min_right a b = omega (arith, ints, clamps)

pub max_right : (a b : ℤ) → b ≤ℤ int_max a b
max_right a b = omega (arith, ints, clamps)

pub min-same : (a b : ℤ) → a ≤ℤ b → int_min a b ≡ a
min-same a b h = omega (arith, ints, clamps)

pub max-same : (a b : ℤ) → b ≤ℤ a → int_max a b ≡ a
max-same a b h = omega (arith, ints, clamps)

-- the last position is among them
pub least_last : (f : ℕ → ℤ) (n : ℕ) → least f n ≤ℤ f n
least_last f zero = omega (arith, ints)
least_last f (suc n) = min_right (least f n) (f (suc n))

pub greatest_last : (f : ℕ → ℤ) (n : ℕ) → f n ≤ℤ greatest f n
greatest_last f zero = omega (arith, ints)
greatest_last f (suc n) = max_right (greatest f n) (f (suc n))

-- of positions in order, the number is what the difference says
pub cells_between-is : (low high : ℤ) → low ≤ℤ high → pos (cells_between low high) ≡ (high -ℤ low) +ℤ pos 1
cells_between-is low high h = difference (high -ℤ low) (omega (arith, ints)) where
  difference : (d : ℤ) → pos 0 ≤ℤ d → pos (unsigned_abs d + 1) ≡ d +ℤ pos 1
  difference (pos n) h = refl
  difference (negsuc n) h = omega (arith, ints)

pub cells_between_wider : (low high low' high' : ℤ) → low ≤ℤ high → low' ≤ℤ low → high ≤ℤ high'
    → cells_between low high ≤ cells_between low' high'
cells_between_wider low high low' high' h l g =
    let a = cells_between-is low high h in
    let b = cells_between-is low' high' (omega (arith, ints)) in
    omega (arith, ints)
