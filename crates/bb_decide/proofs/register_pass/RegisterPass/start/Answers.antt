use Rattle.std.proofs.Common.{refl}
use Rattle.bb_decide.proofs.RegisterPasses.{register_pass_at_first}
use Rattle.bb_decide.proofs.register_pass.RegisterPass.start.Goals as goal

pub returns : goal.returns
returns c =
    register_pass_at_first c.start-run.ensures.run c.start-run.ensures.steps _ refl _ _ c.new.ensures c.new-2.ensures
