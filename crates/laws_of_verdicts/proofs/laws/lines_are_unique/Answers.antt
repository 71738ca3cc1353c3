use Rattle.laws_of_verdicts.proofs.UniqueLines.{lines_are_unique}
use Rattle.laws_of_verdicts.proofs.laws.lines_are_unique.Goals as goal

pub returns : goal.returns
returns c = lines_are_unique
