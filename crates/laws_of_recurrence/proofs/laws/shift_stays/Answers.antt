use Rattle.laws_of_recurrence.proofs.Cyclers.{exact_of_cyclers}
use Rattle.laws_of_recurrence.proofs.Shifts.{shift_stays}
use Rattle.laws_of_recurrence.proofs.Tapes.{zero_shift_is_cycle}
use Rattle.laws_of_recurrence.proofs.laws.shift_stays.Goals as goal

pub returns-clause-stays : goal.returns-clause-stays
returns-clause-stays c = shift_stays

pub returns-clause-zero : goal.returns-clause-zero
returns-clause-zero c = zero_shift_is_cycle

pub returns-clause-cyclers : goal.returns-clause-cyclers
returns-clause-cyclers c = exact_of_cyclers
