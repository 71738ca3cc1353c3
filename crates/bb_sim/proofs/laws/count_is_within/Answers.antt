use Rattle.bb_sim.proofs.RunLaws.{count_is_within}
use Rattle.bb_sim.proofs.laws.count_is_within.Goals as goal

pub returns : goal.returns
returns c = count_is_within
