use Rattle.std.proofs.Common.{◌≡◌, ◌≤◌, ◌<◌, ◌+◌, ◌*◌}
use Rattle.laws_of_recurrence.specs.Recurrence.{IsMultipleOf, Repeats}
use Rattle.bb_recurrence.specs.Tapes.{TapesHaveCells}
use Rattle.bb_recurrence.proofs.period.SavedPair.reduce.Given as goal

-- the period divides the known one, and each test was paid by what it took off
abbrev pub invariant-loop-period : goal.invariant-loop-period
invariant-loop-period g l = record {
  saved : g.T.Tape.view l.tapes.pair.saved ≡ g.T.Tape.view l.fn.tapes.pair.saved;
  tapes : TapesHaveCells g.T.Tape.view l.self.pair.limits.now.cells l.tapes;
  some : 0 < l.period;
  less : l.period ≤ l.known;
  divides : IsMultipleOf l.period l.known;
  repeats : Repeats l.self.pair.machine.now l.self.pair.first l.period;
  no_less : l.fn.meter.steps ≤ l.meter.steps;
  counted : l.meter.steps + 4 * l.period ≤ l.fn.meter.steps + 4 * l.known;
}

abbrev pub decreases-loop-period : goal.decreases-loop-period
decreases-loop-period g l = l.period
