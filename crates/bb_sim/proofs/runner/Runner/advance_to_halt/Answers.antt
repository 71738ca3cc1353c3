use Rattle.std.proofs.Common.{pos, ◌≡◌, refl, sym, ap, ◌∙◌, arith, rules, w64, FitsSigned}
use Rattle.std.proofs.lemmas.Int.{ints, to_z-of_z}
use Rattle.bb_machine.specs.declared.entry.Entry.TheVariants.{Go}
use Rattle.bb_sim.specs.Configuration.{beside}
use Rattle.bb_sim.specs.declared.runner.Moved.TheVariants.{Halted, NoSteps}
use Rattle.bb_sim.specs.CellsBetween.{cells_between}
use Rattle.bb_sim.specs.Meter.{stepped}
use Rattle.bb_sim.specs.Runner.{high_of, low_of, steps_of}
use Rattle.bb_sim.specs.inside.Widening.{StepsTo, GoesNowhere}
use Rattle.bb_sim.proofs.Outcomes.{halts_last, steps_last}
use Rattle.bb_sim.proofs.Standing.{near_head, head_inside}
use Rattle.bb_sim.proofs.Stepping.{halts_undefined, running, moves_on, wanted, made, into_Z, fits_Z}
use Rattle.bb_sim.proofs.Stepping.{answered, refused, nothing, span_in_Z}
use Rattle.bb_sim.proofs.Stepping.{cells_stay}
use Rattle.bb_sim.proofs.runner.Runner.advance_to_halt.Goals as goal

pub returns-in_default : goal.returns-in_default
returns-in_default g c =
    let halts = halts_undefined _ _ _ c.requires.stands (rw c.in_default.is at c.requires.entry) in
    answered Halted halts nothing (halts_last _ _ _ c.show_inside.ensures halts) c.requires.stands refl

pub returns-then-self-steps : goal.returns-then-self-steps
returns-then-self-steps g c =
    answered NoSteps (moves_on c.requires.stands (rw c.in-Go.is at c.requires.entry), cc) nothing
    (steps_last _ _ _ c.show_inside.ensures cc) c.requires.stands refl

pub beside-position-requires : goal.beside-position-requires
beside-position-requires g c =
    let small = (near_head _ _ _ c.in-Go.dir c.requires.stands
    (running c.requires.stands (rw c.in-Go.is at c.requires.entry))
    (g.met.T.Tape.sound c.args.tape.now)).small in
    record { low = omega (arith, ints, small.0); high = omega (arith, ints, small.1) }

pub step_to-requires-clause-inside : goal.step_to-requires-clause-inside
step_to-requires-clause-inside g c =
    head_inside _ _ _ c.requires.stands
    (running c.requires.stands (rw c.in-Go.is at c.requires.entry))

pub step_to-requires-clause-symbol : goal.step_to-requires-clause-symbol
step_to-requires-clause-symbol g c =
    let table = c.args.machine.now in
    let nowhere : GoesNowhere table (Go c.in-Go.write c.in-Go.dir c.in-Go.next) =
    rw c.in-Go.is at c.requires.nowhere in
    let named =
    (fits_Z (g.T.Tape.view c.args.tape.now) c.in-Go.write c.in-Go.dir c.in-Go.next table (pos 0)
    (g.met.T.Tape.sound c.args.tape.now) nowhere).1 in
    omega (arith, named.0, c.requires.machine.symbols)

pub returns-in_default-step_to : goal.returns-in_default-step_to
returns-in_default-step_to g c =
    let table = c.args.machine.now in
    let old = c.args.self.now in
    let view = g.T.Tape.view c.args.tape.now in
    let nowhere : GoesNowhere table (Go c.in-Go.write c.in-Go.dir c.in-Go.next) =
    rw c.in-Go.is at c.requires.nowhere in
    let here = sym c.in-Go.is ∙ c.requires.entry in
    let fits =
    (fits_Z view c.in-Go.write c.in-Go.dir c.in-Go.next table (beside c.in-Go.dir old.position)
    (g.met.T.Tape.sound c.args.tape.now) nowhere).0 in
    let wanted_here = wanted c.requires.stands here c.args.limits.now (λ e. c.if-self-steps.false cc)
    c.requires.limit fits in
    let unmoved = c.in_default-step_to.ensures.unmoved in
    refused wanted_here c.step_to.ensures.limit c.in_default-step_to.ensures.memory
    c.in_default-step_to.ensures.uncounted (ap steps_of unmoved) c.in_default-step_to.ensures.unwritten
    (ap (λ r. cells_between (low_of r) (high_of r)) unmoved
    ∙ span_in_Z table old view c.in-Go.write c.in-Go.dir c.in-Go.next c.requires.stands here
    (g.met.T.Tape.sound c.args.tape.now) nowhere)

pub returns : goal.returns
returns g c =
    let table = c.args.machine.now in
    let old = c.args.self.now in
    let view = g.T.Tape.view c.args.tape.now in
    let sound = g.met.T.Tape.sound c.args.tape.now in
    let nowhere : GoesNowhere table (Go c.in-Go.write c.in-Go.dir c.in-Go.next) =
    rw c.in-Go.is at c.requires.nowhere in
    let position_fits : FitsSigned w64 old.position = search rules in
    let result_fits : FitsSigned w64 c.beside-position.result = search rules in
    let there : c.beside-position.result ≡ beside c.in-Go.dir old.position =
    simp to_z-of_z at c.beside-position.ensures in
    let steps : StepsTo old c.step_to.new.self c.in-Go.next (beside c.in-Go.dir old.position) =
    rw there at (simp to_z-of_z at c.in-Ok.ensures.steps) in
    let end =
    fits_Z view c.in-Go.write c.in-Go.dir c.in-Go.next table (beside c.in-Go.dir old.position)
    sound nowhere in
    let here = sym c.in-Go.is ∙ c.requires.entry in
    let stepped_is =
    into_Z table old view c.in-Go.write c.in-Go.dir c.in-Go.next c.requires.stands here sound nowhere
    c.step_to.new.self (g.T.Tape.view c.step_to.new.tape) steps c.in-Ok.ensures.written in
    made c.requires.stands here c.args.limits.now
    c.step_to.new.self (g.T.Tape.view c.step_to.new.tape) c.args.meter.now c.step_to.new.meter
    sound end.1 c.requires.limit c.requires.steps (λ e. c.if-self-steps.false cc) end.0 stepped_is
    (c.in-Ok.ensures.counted ∙ ap (stepped c.args.meter.now) (cells_stay old c.step_to.new.self _ _ steps))
