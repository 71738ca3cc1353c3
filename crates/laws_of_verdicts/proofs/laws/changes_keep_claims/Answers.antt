use Rattle.laws_of_verdicts.proofs.Changes.{changes_keep_answers, changes_keep_claims}
use Rattle.laws_of_verdicts.proofs.laws.changes_keep_claims.Goals as goal

pub returns-clause-claim : goal.returns-clause-claim
returns-clause-claim c = changes_keep_claims

pub returns-clause-answer : goal.returns-clause-answer
returns-clause-answer c = changes_keep_answers
