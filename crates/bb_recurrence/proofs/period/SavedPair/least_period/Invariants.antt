use Rattle.std.proofs.Common.{◌≡◌, ◌<◌, ◌≤◌, ◌-◌, ◌*◌}
use Rattle.bb_recurrence.specs.Pairs.{distance_of}
use Rattle.bb_recurrence.specs.Tapes.{TapesHaveCells}
use Rattle.bb_recurrence.proofs.Reductions.{CountsSoFar, IsTried}
use Rattle.bb_recurrence.proofs.period.SavedPair.least_period.Given as goal

-- the primes below the divisor are tried
abbrev pub invariant-loop-rest : goal.invariant-loop-rest
invariant-loop-rest g l = record {
  saved : g.T.Tape.view l.tapes.pair.saved ≡ g.T.Tape.view l.fn.tapes.pair.saved;
  tapes : TapesHaveCells g.T.Tape.view l.self.pair.limits.now.cells l.tapes;
  above : 1 < l.divisor;
  tried : IsTried l.self.pair.machine.now l.self.pair.first (distance_of l.self.pair) l.period l.rest l.divisor;
  no_less : l.fn.meter.steps ≤ l.meter.steps;
  counted : CountsSoFar (distance_of l.self.pair) l.rest l.fn.meter.steps l.meter.steps;
}

abbrev pub decreases-loop-rest : goal.decreases-loop-rest
decreases-loop-rest g l = 2 * l.rest - l.divisor
