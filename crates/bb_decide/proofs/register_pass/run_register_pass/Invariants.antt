use Rattle.std.proofs.Common.{◌-◌}
use Rattle.bb_decide.specs.inside.RegisterPass.{IsInRegisterPass}
use Rattle.bb_decide.proofs.register_pass.run_register_pass.Given as goal

abbrev pub invariant-loop-result : goal.invariant-loop-result
invariant-loop-result l = IsInRegisterPass l.machine l.limits l.pass

abbrev pub decreases-loop-result : goal.decreases-loop-result
decreases-loop-result l = l.limits.steps - l.pass.run.steps
