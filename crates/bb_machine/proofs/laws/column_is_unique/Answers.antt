use Rattle.bb_machine.proofs.LawLemmas.{column_unique}
use Rattle.bb_machine.proofs.laws.column_is_unique.Goals as goal

pub returns : goal.returns
returns c = column_unique
