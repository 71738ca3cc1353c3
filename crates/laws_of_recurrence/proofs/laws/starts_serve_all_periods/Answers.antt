use Rattle.laws_of_recurrence.proofs.Exact.{starts_serve_all_periods}
use Rattle.laws_of_recurrence.proofs.laws.starts_serve_all_periods.Goals as goal

pub returns : goal.returns
returns c = starts_serve_all_periods
