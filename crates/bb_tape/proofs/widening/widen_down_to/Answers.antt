use Rattle.std.proofs.Common.{◌≡◌, ◌<ℤ◌, ◌≤ℤ◌, ◌-ℤ◌, ℤ, pos, ap, ◌∙◌, arith, to_z, of_z, w64}
use Rattle.std.proofs.lemmas.Int.{ints, clamps, to_z-of_z}
use Rattle.bb_tape.specs.TapeView.{visited}
use Rattle.bb_tape.proofs.AnyPosition.{room_down}
use Rattle.bb_tape.proofs.Facts.{visited-visited-low}
use Rattle.bb_tape.proofs.WiderWindows.{narrow_fits}
use Rattle.bb_tape.proofs.widening.widen_down_to.Goals as goal

pub widen_low-requires-clause-room : goal.widen_low-requires-clause-room
widen_low-requires-clause-room g c =
    let s = g.T.Tape.view c.args.tape.now in
    let sound = g.met.T.Tape.sound c.args.tape.now in
    let low : ℤ = to_z w64 c.loop-low.low-bits in
    let same : to_z w64 (of_z w64 c.args.p) ≡ c.args.p = to_z-of_z w64 _ c.ranges.p in
    let test : c.args.p <ℤ low = let t = rw same at c.loop-low-test.true in grind (arith, ints, t) in
    rw c.loop-low.invariant.view
    (room_down s sound c.args.p low test c.loop-low.invariant.to c.requires.room)

pub loop-low-preserved : goal.loop-low-preserved
loop-low-preserved g c =
    let s = g.T.Tape.view c.args.tape.now in
    let low : ℤ = to_z w64 c.loop-low.low-bits in
    let same : to_z w64 (of_z w64 c.args.p) ≡ c.args.p = to_z-of_z w64 _ c.ranges.p in
    let test : c.args.p <ℤ low = let t = rw same at c.loop-low-test.true in grind (arith, ints, t) in
    let sound = g.met.T.Tape.sound c.args.tape.now in
    let fits = narrow_fits (low -ℤ pos 1)
    (omega (arith, ints, clamps, test, c.requires.room, sound.to_zero, sound.limited))
    (omega (arith, ints, c.loop-low.invariant.to, sound.from_zero)) in
    let next : to_z w64 (of_z w64 (low -ℤ pos 1)) ≡ low -ℤ pos 1 = to_z-of_z w64 _ fits in
    let order : low ≤ℤ s.high =
    omega (arith, ints, c.loop-low.invariant.to, sound.from_zero, sound.to_zero) in
    let further : to_z w64 (of_z w64 (low -ℤ pos 1)) ≤ℤ low = omega (arith, ints, next) in
    record {
      view = c.widen_low.ensures
          ∙ ap (λ x. visited x (to_z w64 (of_z w64 (low -ℤ pos 1)))) c.loop-low.invariant.view
          ∙ visited-visited-low s low _ further order;
      from = omega (arith, ints, same, next, test);
      to = omega (arith, ints, next, c.loop-low.invariant.to);
    }
