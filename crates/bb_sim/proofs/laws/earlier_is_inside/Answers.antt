use Rattle.bb_sim.proofs.RunLaws.{earlier_is_inside}
use Rattle.bb_sim.proofs.laws.earlier_is_inside.Goals as goal

pub returns : goal.returns
returns c = earlier_is_inside
