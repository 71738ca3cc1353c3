use Rattle.bb_recurrence.proofs.Divisors.{none_past_root}
use Rattle.bb_recurrence.proofs.factors.next_divisor.Goals as goal

pub returns-then-divisor-number-clause-none : goal.returns-then-divisor-number-clause-none
returns-then-divisor-number-clause-none c =
    none_past_root _ _ c.requires.above c.if-divisor-number.true c.requires.none
