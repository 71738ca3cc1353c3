use Rattle.std.proofs.Common.{arith, length, ◌≡◌}
use Rattle.bb_recurrence.proofs.Quasihalts.{greatest_at_first, greatest_more, never_quasihalts, quasihalts}
use Rattle.bb_recurrence.proofs.uses.LastUses.quasihalt.Goals as goal

pub loop-state-init : goal.loop-state-init
loop-state-init c = greatest_at_first _

pub loop-state-preserved : goal.loop-state-preserved
loop-state-preserved c =
    greatest_more _ _ _ _ _ _ _ c.requires.seen (c.step_after.ensures _ c.requires.seen.seen) c.loop-state.invariant
    c.with_last_use-steps.ensures.last c.with_last_use-steps.ensures.for_ever

pub returns-then-steps-eq0 : goal.returns-then-steps-eq0
returns-then-steps-eq0 c =
    let end : c.loop-state.state ≡ length c.args.machine.now =
    omega (arith, c.loop-state-test.false, c.loop-state.auto.state-end, c.states-state-end.ensures.value) in
    never_quasihalts _ _ c.states-state-end.ensures.machine (rw end at c.loop-state.invariant) c.if-steps-eq0.true

pub returns-else-steps-eq0 : goal.returns-else-steps-eq0
returns-else-steps-eq0 c =
    let end : c.loop-state.state ≡ length c.args.machine.now =
    omega (arith, c.loop-state-test.false, c.loop-state.auto.state-end, c.states-state-end.ensures.value) in
    quasihalts _ _ c.states-state-end.ensures.machine c.requires.seen.repeats.never (rw end at c.loop-state.invariant)
    c.if-steps-eq0.false
