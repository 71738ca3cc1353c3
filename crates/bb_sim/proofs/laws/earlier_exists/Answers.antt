use Rattle.bb_sim.proofs.RunLaws.{earlier_exists}
use Rattle.bb_sim.proofs.laws.earlier_exists.Goals as goal

pub returns : goal.returns
returns c = earlier_exists
