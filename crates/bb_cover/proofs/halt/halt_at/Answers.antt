use Rattle.bb_cover.proofs.Halting.{cut_ends, cut_inside, halts_elsewhere}
use Rattle.bb_cover.proofs.halt.halt_at.Goals as goal

pub returns-in_default-clause-ends : goal.returns-in_default-clause-ends
returns-in_default-clause-ends g c halts inside =
    let none = rw c.in_default.is at c.in_ok-halted.ensures.ends in
    none c.args.steps halts (cut_inside c.args.machine.now c.args.limits.now c.with_steps.result c.args.steps
    c.with_steps.ensures inside)

pub returns-then-halted-steps-clause-ends : goal.returns-then-halted-steps-clause-ends
returns-then-halted-steps-clause-ends g c halts inside =
    let ends = rw c.in-Some.is at c.in_ok-halted.ensures.ends in
    halts_elsewhere c.args.machine.now c.in-Some.halted.steps c.args.steps ends.halts c.if-halted-steps.true halts

pub returns-clause-ends : goal.returns-clause-ends
returns-clause-ends g c =
    let ends = rw c.in-Some.is at c.in_ok-halted.ensures.ends in
    cut_ends c.args.machine.now c.args.limits.now c.with_steps.result c.args.steps c.with_steps.ensures
    c.requires.steps c.in-Some.halted ends c.if-halted-steps.false
