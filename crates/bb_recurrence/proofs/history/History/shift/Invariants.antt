use Rattle.std.proofs.Common.{◌≤◌, ◌-◌, ◌≤ℤ◌, neg_ℤ, pos}
use Rattle.laws_of_recurrence.specs.Shift.{IsShift}
use Rattle.bb_recurrence.proofs.history.History.shift.Given as goal

-- the moves up to the step are added up
abbrev pub invariant-loop-step : goal.invariant-loop-step
invariant-loop-step l = record {
  order : l.from ≤ l.step;
  within : l.step ≤ l.to;
  shift : IsShift l.machine l.from (l.step - l.from) l.shift;
  low : neg_ℤ (pos (l.step - l.from)) ≤ℤ l.shift;
  high : l.shift ≤ℤ pos (l.step - l.from);
}

abbrev pub decreases-loop-step : goal.decreases-loop-step
decreases-loop-step l = l.to - l.step
