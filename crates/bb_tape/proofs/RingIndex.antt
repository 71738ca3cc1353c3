-- The index of a cell in a ring: no two cells of a window have the same one.
use Rattle.std.proofs.Common.{◌≡◌, ◌≢◌, ◌⊎◌, inl, inr, ℕ, suc, ◌-◌, ◌<◌, ◌%◌, ℤ, pos, negsuc, ◌+ℤ◌, ◌-ℤ◌}
use Rattle.std.proofs.Common.{◌≤ℤ◌, ◌<ℤ◌, sym, ap, ◌∙◌, arith, w64}
use Rattle.std.proofs.Math.Nat.{mod-eq_of_lt}
use Rattle.std.proofs.lemmas.Int.{ints}
use Rattle.std.specs.Prelude.{unsigned_abs}
use mir.Val.{SFits}
use Rattle.bb_tape.specs.Window.{IsWindow}
use Rattle.bb_tape.specs.RingIndex.{ring_index}
use Rattle.bb_tape.proofs.WiderWindows.{narrow_fits}

index_of_pos : (size n : ℕ) → n < size → ring_index size (pos n) ≡ n
unfolding ring_index
index_of_pos size n h = mod-eq_of_lt h

less_rem : (size n r : ℕ) → r ≡ n → size - 1 - r ≡ size - suc n
less_rem size n r e = omega arith

index_of_neg : (size n : ℕ) → n < size → ring_index size (negsuc n) ≡ size - suc n
unfolding ring_index
index_of_neg size n h = less_rem size n (n % size) (mod-eq_of_lt h)

from_end : (size n : ℕ) → n < size → pos (size - suc n) ≡ negsuc n +ℤ pos size
from_end size n h = omega (arith, ints)

-- a cell stands at its own number, or as far below the ring's end as it is below 0
pub index_cases : (size : ℕ) (p : ℤ) → (pos 0 -ℤ pos size) ≤ℤ p → p <ℤ pos size
    → ((pos 0 ≤ℤ p) × (pos (ring_index size p) ≡ p))
    ⊎ ((p <ℤ pos 0) × (pos (ring_index size p) ≡ p +ℤ pos size))
index_cases size (pos n) a b = inl (omega (arith, ints), ap pos (index_of_pos size n (omega (arith, ints))))
index_cases size (negsuc n) a b =
    let small : n < size = omega (arith, ints) in
    inr (omega (arith, ints), ap pos (index_of_neg size n small) ∙ from_end size n small)

module _ (low high : ℤ) (limit : ℕ) (w : IsWindow low high limit)
    (p : ℤ) (from : low ≤ℤ p) (to : p ≤ℤ high) where
  pub index_in : ((pos 0 ≤ℤ p) × (pos (ring_index limit p) ≡ p))
      ⊎ ((p <ℤ pos 0) × (pos (ring_index limit p) ≡ p +ℤ pos limit))
  index_in = index_cases limit p (omega (arith, ints)) (omega (arith, ints))

  pub index_below : ring_index limit p < limit
  index_below = omega (arith, ints, index_in)

  pub index_from_zero : pos 0 ≤ℤ p → unsigned_abs p ≡ ring_index limit p
  index_from_zero up =
      elim index_in [ inl c ↦ ap unsigned_abs (sym c.1) | inr c ↦ absurd (omega (arith, ints, c.0)) ]

  pub index_under_zero : p <ℤ pos 0 → unsigned_abs (pos limit +ℤ p) ≡ ring_index limit p
  index_under_zero under =
      let turned : pos limit +ℤ p ≡ p +ℤ pos limit = omega (arith, ints) in
      elim index_in [
        | inl c ↦ absurd (omega (arith, ints, c.0))
        | inr c ↦ ap unsigned_abs (turned ∙ sym c.1)
      ]

  pub sum_fits : p <ℤ pos 0 → SFits w64 (pos limit +ℤ p)
  sum_fits under = narrow_fits (pos limit +ℤ p) (omega (arith, ints)) (omega (arith, ints))

  -- no other cell of the window has its index
  pub index_apart : (q : ℤ) → low ≤ℤ q → q ≤ℤ high → q ≢ p → ring_index limit q ≢ ring_index limit p
  index_apart q qfrom qto other same =
      let there = index_cases limit q (omega (arith, ints)) (omega (arith, ints)) in
      other (omega (arith, ints, same, index_in, there))
