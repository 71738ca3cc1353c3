use Rattle.bb_sim.proofs.RunLaws.{last_step_is_unique}
use Rattle.bb_sim.proofs.laws.last_step_is_unique.Goals as goal

pub returns : goal.returns
returns c = last_step_is_unique
