use Rattle.laws_of_recurrence.proofs.Lines.{lines_keep_recurrences}
use Rattle.laws_of_recurrence.proofs.laws.lines_keep_recurrences.Goals as goal

pub returns : goal.returns
returns c = lines_keep_recurrences
