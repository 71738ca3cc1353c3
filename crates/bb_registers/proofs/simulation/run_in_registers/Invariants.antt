use Rattle.std.proofs.Common.{◌-◌}
use Rattle.bb_registers.specs.Registers.{IsRegisterRun}
use Rattle.bb_registers.proofs.simulation.run_in_registers.Given as goal

abbrev pub invariant-loop-outcome : goal.invariant-loop-outcome
invariant-loop-outcome l = IsRegisterRun l.machine l.limits l.run

abbrev pub decreases-loop-outcome : goal.decreases-loop-outcome
decreases-loop-outcome l = l.limits.steps - l.run.steps
