use Rattle.laws_of_recurrence.proofs.Exact.{exact_is_seen, seen_is_exact}
use Rattle.laws_of_recurrence.proofs.Existence.{difference_is_seen}
use Rattle.laws_of_recurrence.proofs.laws.seen_is_exact.Goals as goal

pub returns-clause-right : goal.returns-clause-right
returns-clause-right c = seen_is_exact

pub returns-clause-complete : goal.returns-clause-complete
returns-clause-complete c = exact_is_seen

pub returns-clause-finite : goal.returns-clause-finite
returns-clause-finite c = difference_is_seen
