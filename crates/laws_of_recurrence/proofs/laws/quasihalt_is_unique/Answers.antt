use Rattle.laws_of_recurrence.proofs.Uses.{quasihalt_is_unique, quasihalts_by_last_use}
use Rattle.laws_of_recurrence.proofs.laws.quasihalt_is_unique.Goals as goal

pub returns-clause-one : goal.returns-clause-one
returns-clause-one c = quasihalt_is_unique

pub returns-clause-by_last_use : goal.returns-clause-by_last_use
returns-clause-by_last_use c = quasihalts_by_last_use
