use Rattle.laws_of_verdicts.proofs.LinesOf.{lines_keep_answers, lines_keep_pairs, lines_settle}
use Rattle.laws_of_verdicts.proofs.laws.lines_settle.Goals as goal

pub returns-clause-settle : goal.returns-clause-settle
returns-clause-settle c = lines_settle

pub returns-clause-pair : goal.returns-clause-pair
returns-clause-pair c = lines_keep_pairs

pub returns-clause-answer : goal.returns-clause-answer
returns-clause-answer c = lines_keep_answers
