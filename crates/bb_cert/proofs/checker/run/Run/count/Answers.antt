use Rattle.std.proofs.Common.{sym, subst, arith}
use Rattle.std.proofs.lemmas.Int.{ints}
use Rattle.bb_sim.specs.Meter.{zero_meter}
use Rattle.bb_sim.specs.Span.{Inside}
use Rattle.bb_registers.proofs.Facts.{counted_so_far}
use Rattle.bb_cert.proofs.checker_lemmas.InRegisters.{inside_in_registers}
use Rattle.bb_cert.proofs.checker.run.Run.count.Goals as goal

pub count-requires-clause-cells : goal.count-requires-clause-cells
count-requires-clause-cells g c =
    let known = (rw c.in-InRegisters.is at c.requires.run).run.is_run in
    let sound = known.sound in
    omega (arith, ints, known.window_is.room_is, known.limit, sound.from_zero, sound.to_zero)

pub returns-in-InRegisters-clause-counts : goal.returns-in-InRegisters-clause-counts
returns-in-InRegisters-clause-counts g c =
    let active = (rw c.in-InRegisters.is at c.requires.run).run in
    rw c.in-InRegisters.is (counted_so_far active.is_run zero_meter _ active.is_run.steps_is
    (rw active.uncounted at c.count.ensures))

pub returns-in-InRegisters-clause-inside : goal.returns-in-InRegisters-clause-inside
returns-in-InRegisters-clause-inside g c =
    let known = (rw c.in-InRegisters.is at c.requires.run).run.is_run in
    rw c.in-InRegisters.is (subst (Inside c.args.machine.now c.args.limits.now) (sym known.steps_is)
    (inside_in_registers known known.stands (sym known.steps_is)))
