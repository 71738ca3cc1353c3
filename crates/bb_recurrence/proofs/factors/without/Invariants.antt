use Rattle.bb_recurrence.proofs.Divisors.{IsDivided}
use Rattle.bb_recurrence.proofs.factors.without.Given as goal

abbrev pub invariant-loop-rest : goal.invariant-loop-rest
invariant-loop-rest l = IsDivided l.number l.divisor l.rest

abbrev pub decreases-loop-rest : goal.decreases-loop-rest
decreases-loop-rest l = l.rest
