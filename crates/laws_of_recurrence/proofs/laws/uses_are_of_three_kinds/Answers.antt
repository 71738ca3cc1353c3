use Rattle.laws_of_recurrence.proofs.Uses.{kinds_of_use_differ, last_use_is_unique, uses_are_of_three_kinds}
use Rattle.laws_of_recurrence.proofs.laws.uses_are_of_three_kinds.Goals as goal

pub returns-clause-kinds : goal.returns-clause-kinds
returns-clause-kinds c = uses_are_of_three_kinds

pub returns-clause-differ : goal.returns-clause-differ
returns-clause-differ c = kinds_of_use_differ

pub returns-clause-one_last : goal.returns-clause-one_last
returns-clause-one_last c = last_use_is_unique
