use Rattle.bb_decide.proofs.Sure.{agreeing_records_are_found, repeats_are_found}
use Rattle.bb_decide.proofs.laws.patterns_are_found.Goals as goal

pub returns-clause-repeats : goal.returns-clause-repeats
returns-clause-repeats c = repeats_are_found

pub returns-clause-records : goal.returns-clause-records
returns-clause-records c = agreeing_records_are_found
