use Rattle.std.proofs.Common.{refl}
use Rattle.bb_sim.proofs.Standing.{at_start}
use Rattle.bb_sim.proofs.runner.Runner.start.Goals as goal

pub returns-clause-stands : goal.returns-clause-stands
returns-clause-stands g c =
    at_start _ _ _ _ c.show_machine.ensures.machine c.reset.ensures refl refl refl refl refl
