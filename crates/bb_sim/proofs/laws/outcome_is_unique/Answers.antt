use Rattle.bb_sim.proofs.RunLaws.{outcome_is_unique}
use Rattle.bb_sim.proofs.laws.outcome_is_unique.Goals as goal

pub returns : goal.returns
returns c = outcome_is_unique
