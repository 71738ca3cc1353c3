use Rattle.laws_of_recurrence.proofs.LaterPairs.{late_records_are_pairs, repeats_have_pairs}
use Rattle.laws_of_recurrence.proofs.laws.repeats_have_pairs.Goals as goal

pub returns-clause-records : goal.returns-clause-records
returns-clause-records c = late_records_are_pairs c.records_in_order.ensures.short

pub returns-clause-pairs : goal.returns-clause-pairs
returns-clause-pairs c = repeats_have_pairs c.records_in_order.ensures.short
