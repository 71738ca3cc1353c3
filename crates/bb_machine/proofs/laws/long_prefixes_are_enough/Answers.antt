use Rattle.bb_machine.proofs.LawLemmas.{prefix_enough}
use Rattle.bb_machine.proofs.laws.long_prefixes_are_enough.Goals as goal

pub returns : goal.returns
returns c = prefix_enough
