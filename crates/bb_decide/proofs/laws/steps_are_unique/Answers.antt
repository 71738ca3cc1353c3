use Rattle.bb_decide.proofs.Verdicts.{steps_are_bounded, steps_are_unique}
use Rattle.bb_decide.proofs.laws.steps_are_unique.Goals as goal

pub returns-clause-unique : goal.returns-clause-unique
returns-clause-unique c = steps_are_unique

pub returns-clause-bounded : goal.returns-clause-bounded
returns-clause-bounded c = steps_are_bounded
