use Rattle.laws_of_recurrence.proofs.Uses.{last_use_is_seen, unused_is_seen, used_for_ever_just_in_period}
use Rattle.laws_of_recurrence.proofs.laws.uses_are_seen.Goals as goal

pub returns-clause-for_ever : goal.returns-clause-for_ever
returns-clause-for_ever c = used_for_ever_just_in_period

pub returns-clause-last : goal.returns-clause-last
returns-clause-last c = last_use_is_seen

pub returns-clause-none : goal.returns-clause-none
returns-clause-none c = unused_is_seen
