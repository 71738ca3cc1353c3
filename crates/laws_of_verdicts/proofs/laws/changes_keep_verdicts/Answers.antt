use Rattle.laws_of_verdicts.proofs.Changes.{changes_keep_verdicts}
use Rattle.laws_of_verdicts.proofs.laws.changes_keep_verdicts.Goals as goal

pub returns : goal.returns
returns c = changes_keep_verdicts
