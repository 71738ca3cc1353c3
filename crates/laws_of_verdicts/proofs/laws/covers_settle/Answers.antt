use Rattle.laws_of_verdicts.proofs.Covers.{covers_decide, covers_settle}
use Rattle.laws_of_verdicts.proofs.laws.covers_settle.Goals as goal

pub returns-clause-settle : goal.returns-clause-settle
returns-clause-settle c = covers_settle

pub returns-clause-decide : goal.returns-clause-decide
returns-clause-decide c = covers_decide
