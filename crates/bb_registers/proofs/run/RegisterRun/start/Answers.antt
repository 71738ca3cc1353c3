use Rattle.bb_registers.proofs.Starting.{first_run}
use Rattle.bb_registers.proofs.run.RegisterRun.start.Goals as goal

pub returns-clause-run : goal.returns-clause-run
returns-clause-run c =
    first_run c.args.machine.now c.args.limits.now c.show_machine.ensures.machine c.show_accepted.ensures.accepted _ cc
