use Rattle.bb_sim.proofs.Parity.{position_has_parity_of_step}
use Rattle.bb_sim.proofs.laws.position_has_parity_of_step.Goals as goal

pub returns : goal.returns
returns c = position_has_parity_of_step
