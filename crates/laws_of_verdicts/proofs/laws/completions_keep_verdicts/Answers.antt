use Rattle.laws_of_verdicts.proofs.Completions.{completions_keep_verdicts}
use Rattle.laws_of_verdicts.proofs.laws.completions_keep_verdicts.Goals as goal

pub returns : goal.returns
returns c = completions_keep_verdicts
