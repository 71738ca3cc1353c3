use Rattle.std.proofs.Common.{◌≡◌, ◌<ℤ◌, ◌≤ℤ◌, ◌+ℤ◌, ℤ, pos, ap, ◌∙◌, arith, to_z, of_z, w64}
use Rattle.std.proofs.lemmas.Int.{ints, clamps, to_z-of_z}
use Rattle.bb_tape.specs.TapeView.{visited}
use Rattle.bb_tape.proofs.AnyPosition.{room_up}
use Rattle.bb_tape.proofs.Facts.{visited-visited-high}
use Rattle.bb_tape.proofs.WiderWindows.{narrow_fits}
use Rattle.bb_tape.proofs.widening.widen_up_to.Goals as goal

pub widen_high-requires-clause-room : goal.widen_high-requires-clause-room
widen_high-requires-clause-room g c =
    let s = g.T.Tape.view c.args.tape.now in
    let sound = g.met.T.Tape.sound c.args.tape.now in
    let high : ℤ = to_z w64 c.loop-high.high-bits in
    let same : to_z w64 (of_z w64 c.args.p) ≡ c.args.p = to_z-of_z w64 _ c.ranges.p in
    let test : high <ℤ c.args.p = let t = rw same at c.loop-high-test.true in grind (arith, ints, t) in
    rw c.loop-high.invariant.view
    (room_up s sound c.args.p high test c.loop-high.invariant.from c.requires.room)

pub loop-high-preserved : goal.loop-high-preserved
loop-high-preserved g c =
    let s = g.T.Tape.view c.args.tape.now in
    let high : ℤ = to_z w64 c.loop-high.high-bits in
    let same : to_z w64 (of_z w64 c.args.p) ≡ c.args.p = to_z-of_z w64 _ c.ranges.p in
    let test : high <ℤ c.args.p = let t = rw same at c.loop-high-test.true in grind (arith, ints, t) in
    let sound = g.met.T.Tape.sound c.args.tape.now in
    let fits = narrow_fits (high +ℤ pos 1)
    (omega (arith, ints, c.loop-high.invariant.from, sound.to_zero))
    (omega (arith, ints, clamps, test, c.requires.room, sound.from_zero, sound.limited)) in
    let next : to_z w64 (of_z w64 (high +ℤ pos 1)) ≡ high +ℤ pos 1 = to_z-of_z w64 _ fits in
    let order : s.low ≤ℤ high =
    omega (arith, ints, c.loop-high.invariant.from, sound.from_zero, sound.to_zero) in
    let further : high ≤ℤ to_z w64 (of_z w64 (high +ℤ pos 1)) = omega (arith, ints, next) in
    record {
      view = c.widen_high.ensures
          ∙ ap (λ x. visited x (to_z w64 (of_z w64 (high +ℤ pos 1)))) c.loop-high.invariant.view
          ∙ visited-visited-high s high _ further order;
      to = omega (arith, ints, same, next, test);
      from = omega (arith, ints, next, c.loop-high.invariant.from);
    }
