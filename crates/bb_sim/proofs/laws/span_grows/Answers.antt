use Rattle.bb_sim.proofs.RunLaws.{span_only_grows}
use Rattle.bb_sim.proofs.laws.span_grows.Goals as goal

pub returns : goal.returns
returns c = span_only_grows
