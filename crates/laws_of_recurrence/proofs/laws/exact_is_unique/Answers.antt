use Rattle.laws_of_recurrence.proofs.Exact.{exact_is_unique, exact_tells_all, periods_are_multiples}
use Rattle.laws_of_recurrence.proofs.Existence.{exact_exists}
use Rattle.laws_of_recurrence.proofs.laws.exact_is_unique.Goals as goal

pub returns-clause-one : goal.returns-clause-one
returns-clause-one c = exact_is_unique

pub returns-clause-multiples : goal.returns-clause-multiples
returns-clause-multiples c = periods_are_multiples

pub returns-clause-tells : goal.returns-clause-tells
returns-clause-tells c = exact_tells_all

pub returns-clause-exists : goal.returns-clause-exists
returns-clause-exists c = exact_exists
