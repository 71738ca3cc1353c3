use Rattle.bb_sim.proofs.RunLaws.{span_is_reached}
use Rattle.bb_sim.proofs.laws.span_is_reached.Goals as goal

pub returns : goal.returns
returns c = span_is_reached
