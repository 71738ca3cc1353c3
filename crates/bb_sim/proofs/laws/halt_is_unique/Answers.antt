use Rattle.bb_sim.proofs.RunLaws.{halt_is_unique}
use Rattle.bb_sim.proofs.laws.halt_is_unique.Goals as goal

pub returns : goal.returns
returns c = halt_is_unique
