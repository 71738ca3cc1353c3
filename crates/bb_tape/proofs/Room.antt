-- Whether a window has room for one more position, and what it is with it.
use Rattle.std.proofs.Common.{arith, ◌≡◌, ◌↔◌, Bool, false, IsTrue, ℕ, ℤ, pos, ◌-ℤ◌, ◌+ℤ◌, ◌≤ℤ◌, ◌<ℤ◌}
use Rattle.std.proofs.lemmas.Int.{ints, clamps, by_lt_z}
use Rattle.std.specs.Int.{int_min, int_max}
use Rattle.bb_tape.specs.declared.window.Window.{Window}
use Rattle.bb_tape.specs.TapeView.{TapeView, IsSound, IsInside, IsBeside, visited, width}
use Rattle.bb_tape.proofs.Outcome.{refuted}

module _ (s : TapeView) (p : ℤ) (sound : IsSound s) where
  pub room_below : p ≡ s.low -ℤ pos 1 → width s <ℤ pos s.limit → pos s.limit <ℤ width (visited s p) → ⊥
  room_below next room past = omega (arith, ints, clamps)

  pub room_above : p ≡ s.high +ℤ pos 1 → width s <ℤ pos s.limit → pos s.limit <ℤ width (visited s p) → ⊥
  room_above next room past = omega (arith, ints, clamps)

  pub beside_below : p ≡ s.low -ℤ pos 1 → IsBeside s p
  beside_below next = (omega (arith, ints), omega (arith, ints))

  pub beside_above : p ≡ s.high +ℤ pos 1 → IsBeside s p
  beside_above next = (omega (arith, ints), omega (arith, ints))

  pub past_full : pos s.limit ≡ width s → (IsInside s p → ⊥) → pos s.limit <ℤ width (visited s p)
  past_full full outside =
      by_lt_z p s.low (λ under. omega (arith, ints, clamps))
      (λ from. by_lt_z s.high p (λ over. omega (arith, ints, clamps)) (λ to. absurd (outside (from, to))))

-- a window with a position above it taken in
pub above_is : (s : TapeView) (p : ℤ) {low high : ℤ} {limit : ℕ} → low ≡ s.low → high ≡ p → limit ≡ s.limit
    → s.low ≤ℤ p → (IsInside s p → ⊥) → record s { low = low; high = high; limit = limit } ≡ visited s p
above_is s p {low} {high} el eh em from outside =
    let over : s.high ≤ℤ p =
    by_lt_z s.high p (λ over. omega (arith, ints)) (λ to. absurd (outside (from, to))) in
    let least : low ≡ int_min s.low p = omega (arith, ints, clamps) in
    let most : high ≡ int_max s.high p = omega (arith, ints, clamps) in
    λ i. record s { low = least i; high = most i; limit = em i }

-- a window that isn't full has room
pub room_left : (w : Window) (b : Bool) → IsTrue b ↔ (pos w.limit ≡ (w.high -ℤ w.low) +ℤ pos 1) → b ≡ false
    → ((w.high -ℤ w.low) +ℤ pos 1) <ℤ pos w.limit
room_left w b is fails =
    by_lt_z ((w.high -ℤ w.low) +ℤ pos 1) (pos w.limit) (λ less. less)
    (λ full. absurd (refuted b fails is (omega (arith, ints, w.valid.within))))
