use Rattle.std.proofs.Common.{arith, subst, sym}
use Rattle.bb_registers.specs.declared.run.RegisterRun.{RegisterRun}
use Rattle.bb_registers.specs.Registers.{EndsWith, IsRegisterRun}
use Rattle.bb_registers.proofs.simulation.run_in_registers.Goals as goal

pub loop-outcome-smaller : goal.loop-outcome-smaller
loop-outcome-smaller c =
    let made = c.in-Stepped.ensures in
    let next = (made.0 c.loop-outcome.invariant).next in
    omega (arith, made.1, next.few)

pub loop-outcome-preserved : goal.loop-outcome-preserved
loop-outcome-preserved c = (c.in-Stepped.ensures.0 c.loop-outcome.invariant).next

pub returns-in-Ended-clause-ended : goal.returns-in-Ended-clause-ended
returns-in-Ended-clause-ended c =
    subst (λ (run : RegisterRun). (known : IsRegisterRun c.args.machine.now c.args.limits.now run)
    → EndsWith known c.in-Ended.outcome) (sym c.in-Ended.ensures.0) c.in-Ended.ensures.1
