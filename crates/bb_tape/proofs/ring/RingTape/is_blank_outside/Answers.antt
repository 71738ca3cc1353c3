use Rattle.std.proofs.Common.{◌≡◌, inl, inr, pos, ◌+ℤ◌, ◌∙◌, arith, to_z, of_z, w64}
use Rattle.std.proofs.lemmas.Int.{ints, to_z-of_z}
use Rattle.bb_tape.proofs.WiderWindows.{low_fits, high_fits, narrow_fits}
use Rattle.bb_tape.proofs.FromPieces.{zero_outside}
use Rattle.bb_tape.proofs.ring.RingTape.is_blank_outside.Goals as goal

pub returns-then-is_blank : goal.returns-then-is_blank
returns-then-is_blank c =
    let a = c.args.self.now in
    let part = c.args.part in
    let from_is = to_z-of_z w64 _ (low_fits a.window.valid) in
    let next_is : to_z w64 (of_z w64 (to_z w64 (of_z w64 part.high) +ℤ pos 1)) ≡ part.high +ℤ pos 1 =
    (λ i. to_z w64 (of_z w64 (to_z-of_z w64 _ (high_fits part.valid) i +ℤ pos 1)))
    ∙ to_z-of_z w64
    _ (narrow_fits (part.high +ℤ pos 1)
    (omega (arith, ints, part.valid.to_zero))
    (omega (arith, ints, part.valid.within, part.valid.from_zero, part.valid.limited))) in (
      λ t. zero_outside a.cells.items a.window part.low part.high c.below.result c.above.result _ _ from_is
          next_is c.below.ensures c.above.ensures (c.is_blank.ensures.0 c.if-is_blank.true)
          (c.is_blank-then-is_blank.ensures.0 t),
      λ z. c.is_blank-then-is_blank.ensures.1 (λ k h. z _ (inr (omega (arith, ints, next_is)))),
    )

pub returns-else-is_blank : goal.returns-else-is_blank
returns-else-is_blank c =
    let a = c.args.self.now in
    let part = c.args.part in
    let from_is = to_z-of_z w64 _ (low_fits a.window.valid) in (
      λ t. cc,
      λ z. c.is_blank.ensures.1 (λ k h. z _ (inl (omega (arith, ints, from_is, c.below.ensures, h)))),
    )
