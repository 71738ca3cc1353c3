-- A window that is widened to any position: down to the lower end, then up to the higher one.
use Rattle.std.proofs.Common.{◌≡◌, ℕ, ◌<◌, ◌≤◌, ℤ, pos, ◌-ℤ◌, ◌≤ℤ◌, ◌<ℤ◌, Bool, true, false, cond, ap, ◌∙◌}
use Rattle.std.proofs.Common.{arith, w64, to_z, of_z}
use Rattle.std.proofs.lemmas.Int.{ints, clamps, to_z-of_z}
use Rattle.std.specs.Prelude.{unsigned_abs}
use Rattle.std.specs.Int.{int_min, int_max}
use mir.Val.{SFits}
use Rattle.bb_tape.specs.TapeView.{TapeView, IsSound, visited, width}
use Rattle.bb_tape.proofs.WiderWindows.{narrow_fits, min_is, max_is}
use Rattle.bb_tape.proofs.Rings.{abs_is}
use Rattle.bb_tape.proofs.TapeViews.{same_ends}

-- the ends of a window that is widened to p
pub record AreEnds (s : TapeView) (p lo hi : ℤ) : Type 0 where
  pub order : s.low ≤ℤ s.high
  pub low : lo ≡ int_min s.low p
  pub high : hi ≡ int_max s.high p

either_fits : (t : Bool) {x y : ℤ} → SFits w64 x → SFits w64 y → SFits w64 (cond t x y)
either_fits true f g = f
either_fits false f g = g

either_is : (t : Bool) {x y z : ℤ} → SFits w64 x → SFits w64 y → z ≡ cond t x y
    → to_z w64 (of_z w64 z) ≡ cond t x y
either_is t f g e = let fits = either_fits t f g in to_z-of_z w64 _ (rw e fits) ∙ e

-- the lower of the low end and p, and the higher of the high end and p, as numbers of 64 bits
pub ends_are : {s : TapeView} {p low high lo hi : ℤ} → IsSound s → SFits w64 p → low ≡ s.low
    → high ≡ s.high → lo ≡ int_min (to_z w64 (of_z w64 low)) (to_z w64 (of_z w64 p))
    → hi ≡ int_max (to_z w64 (of_z w64 high)) (to_z w64 (of_z w64 p))
    → AreEnds s p (to_z w64 (of_z w64 lo)) (to_z w64 (of_z w64 hi))
ends_are {s} {p} {low} {high} sound fits el eh least most =
    let below : SFits w64 low = narrow_fits low (omega (arith, ints)) (omega (arith, ints)) in
    let above : SFits w64 high = narrow_fits high (omega (arith, ints)) (omega (arith, ints)) in
    record {
      order = omega (arith, ints);
      low = either_is _ fits below (min_is below fits least) ∙ ap (λ x. int_min x p) el;
      high = either_is _ above fits (max_is above fits most) ∙ ap (λ x. int_max x p) eh;
    }

-- there is room for one more position on the way
module _ (s : TapeView) (sound : IsSound s) (p q : ℤ) where
  pub room_down : p <ℤ q → q ≤ℤ s.low → width (visited s p) ≤ℤ pos s.limit
      → width (visited s q) <ℤ pos s.limit
  room_down further on room = omega (arith, ints, clamps, further, on, room, sound.from_zero, sound.to_zero)

  pub room_up : q <ℤ p → s.high ≤ℤ q → width (visited s p) ≤ℤ pos s.limit
      → width (visited s q) <ℤ pos s.limit
  room_up further on room = omega (arith, ints, clamps, further, on, room, sound.from_zero, sound.to_zero)

module _ {s : TapeView} {p lo hi : ℤ} (ends : AreEnds s p lo hi) where
  -- there is room for both
  pub is_small : {span limit : ℕ} → span ≡ unsigned_abs (hi -ℤ lo) → limit ≡ s.limit → span < limit
      → (hi -ℤ lo) <ℤ pos s.limit
  is_small es el less =
      let is : pos (unsigned_abs (hi -ℤ lo)) ≡ hi -ℤ lo =
      abs_is (hi -ℤ lo) (omega (arith, ints, clamps)) in
      omega (arith, ints, is)

  -- there is no room for both
  pub is_wide : {span limit : ℕ} → span ≡ unsigned_abs (hi -ℤ lo) → limit ≡ s.limit → limit ≤ span
      → pos s.limit <ℤ width (visited s p)
  is_wide es el most =
      let is : pos (unsigned_abs (hi -ℤ lo)) ≡ hi -ℤ lo =
      abs_is (hi -ℤ lo) (omega (arith, ints, clamps, ends.order, ends.low, ends.high)) in
      omega (arith, ints, clamps, is, es, el, most, ends.low, ends.high)

  pub room_low : (hi -ℤ lo) <ℤ pos s.limit → width (visited s lo) ≤ℤ pos s.limit
  room_low small = omega (arith, ints, clamps)

  pub above : int_max s.high lo ≤ℤ hi
  above = omega (arith, ints, clamps)

  pub room_high : (hi -ℤ lo) <ℤ pos s.limit → width (visited (visited s lo) hi) ≤ℤ pos s.limit
  room_high small = omega (arith, ints, clamps)

  pub reached : {t u : TapeView} → t ≡ visited s lo → u ≡ visited t hi → u ≡ visited s p
  reached et eu = eu ∙ ap (λ t. visited t hi) et
      ∙ same_ends s (omega (arith, ints, clamps)) (omega (arith, ints, clamps))

  pub fits : (hi -ℤ lo) <ℤ pos s.limit → pos s.limit <ℤ width (visited s p) → ⊥
  fits small wide = omega (arith, ints, clamps)
