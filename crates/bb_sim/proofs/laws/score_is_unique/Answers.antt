use Rattle.bb_sim.proofs.RunLaws.{score_is_unique}
use Rattle.bb_sim.proofs.laws.score_is_unique.Goals as goal

pub returns : goal.returns
returns c = score_is_unique
