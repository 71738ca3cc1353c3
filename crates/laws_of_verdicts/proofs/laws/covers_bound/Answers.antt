use Rattle.laws_of_verdicts.proofs.Bounds.{covers_bound, covers_bound_given}
use Rattle.laws_of_verdicts.proofs.laws.covers_bound.Goals as goal

pub returns-clause-bound : goal.returns-clause-bound
returns-clause-bound c = covers_bound

pub returns-clause-given : goal.returns-clause-given
returns-clause-given c = covers_bound_given
