use Rattle.std.proofs.Common.{◌<◌, ◌+◌, ◌-◌}
use Rattle.bb_machine.specs.Machine.{Table}
use Rattle.laws_of_recurrence.specs.Recurrence.{Repeats}
use Rattle.bb_recurrence.specs.History.{IsRecorded}
use Rattle.bb_recurrence.proofs.Histories.{HasNoPartBelow}
use Rattle.bb_recurrence.proofs.history.History.period.Given as goal

-- the numbers below are no periods
abbrev pub invariant-loop-period : goal.invariant-loop-period
invariant-loop-period l = record {
  some : 0 < l.period;
  none : (table : Table) → IsRecorded table (l.first + l.distance) l.self → Repeats table l.first l.distance
      → HasNoPartBelow table l.first l.distance l.period;
}

abbrev pub decreases-loop-period : goal.decreases-loop-period
decreases-loop-period l = l.distance - l.period
