use Rattle.std.proofs.Common.{◌≡◌, ◌≤◌, ◌<◌, ◌+◌, ℕ}
use Rattle.bb_machine.specs.Machine.{Table}
use Rattle.laws_of_recurrence.specs.Recurrence.{transition_at}
use Rattle.bb_recurrence.specs.History.{IsRecorded}
use Rattle.bb_recurrence.proofs.history.History.start.Given as goal

-- the steps from the start on use the same entries
abbrev pub invariant-loop-start : goal.invariant-loop-start
invariant-loop-start l = record {
  early : l.start ≤ l.first;
  same : (table : Table) → IsRecorded table (l.first + l.distance) l.self → (n : ℕ) → l.start ≤ n → n < l.first
      → transition_at table (n + l.distance) ≡ transition_at table n;
}

abbrev pub decreases-loop-start : goal.decreases-loop-start
decreases-loop-start l = l.start
