use Rattle.std.proofs.Common.{arith, refl}
use Rattle.bb_decide.proofs.BlockPasses.{sprint_more}
use Rattle.bb_decide.proofs.RegisterPasses.{sprint_in_window}
use Rattle.bb_decide.proofs.register_pass.RegisterPass.sprint.Goals as goal

pub returns-clause-pass : goal.returns-clause-pass
returns-clause-pass c =
    sprint_in_window c.show_machine.ensures.machine c.requires.table c.requires.pass refl
    (omega (arith, c.steps.ensures, c.min.ensures)) (omega (arith, c.min.ensures)) refl refl c.go_on-end.ensures

pub returns-clause-on : goal.returns-clause-on
returns-clause-on c = sprint_more c.go_on-end.ensures
