use Rattle.laws_of_verdicts.proofs.Completions.{completions_keep_answers, completions_keep_claims}
use Rattle.laws_of_verdicts.proofs.Completions.{completions_never_halt}
use Rattle.laws_of_verdicts.proofs.laws.completions_keep_claims.Goals as goal

pub returns-clause-claim : goal.returns-clause-claim
returns-clause-claim c = completions_keep_claims

pub returns-clause-answer : goal.returns-clause-answer
returns-clause-answer c = completions_keep_answers

pub returns-clause-never : goal.returns-clause-never
returns-clause-never c = completions_never_halt
