use Rattle.std.proofs.Common.{◌≡◌, ◌∙◌, Err, ap, arith, refl}
use Rattle.std.proofs.lemmas.Int.{clamps, ints}
use Rattle.bb_tape.specs.declared.tape.TapeFault.TheVariants.{Cells}
use Rattle.bb_registers.proofs.TapeBits.{same_views}
use Rattle.bb_registers.proofs.handover.widen_window.Goals as goal

pub unreachable-requires : goal.unreachable-requires
unreachable-requires g c =
    let r = c.requires in
    let sound = g.met.T.Tape.sound c.args.tape.now in
    let full : c.widen_to.result ≡ Err Cells = c.in_default.is ∙ ap Err c.in_default.ensures.memory in
    let wide = c.widen_to.ensures.cells.0 full in
    omega (arith, ints, clamps, wide, r.from, r.to, r.room, sound.from_zero, sound.to_zero)

pub unreachable-requires-in_default-widen_to : goal.unreachable-requires-in_default-widen_to
unreachable-requires-in_default-widen_to g c =
    let r = c.requires in
    let sound = g.met.T.Tape.sound c.args.tape.now in
    let again = c.in_default-widen_to in
    let full : c.widen_to-2.result ≡ Err Cells = again.is ∙ ap Err again.ensures.memory in
    let wide = (rw c.in-Ok.ensures.ok at c.widen_to-2.ensures.cells).0 full in
    omega (arith, ints, clamps, wide, r.from, r.to, r.room, sound.from_zero, sound.to_zero)

pub returns : goal.returns
returns g c =
    let r = c.requires in
    let sound = g.met.T.Tape.sound c.args.tape.now in
    let both = rw c.in-Ok.ensures.ok at c.in-Ok-widen_to.ensures.ok in
    both
    ∙ same_views _ _ refl
    (omega (arith, ints, clamps, r.from, r.to, sound.from_zero, sound.to_zero))
    (omega (arith, ints, clamps, r.from, r.to, sound.from_zero, sound.to_zero))
    refl
