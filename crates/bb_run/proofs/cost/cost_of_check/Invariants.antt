use Rattle.std.proofs.Common.{◌+◌, ◌≤◌, length}
use Rattle.bb_lines.specs.Lines.{lines}
use Rattle.bb_run.proofs.Costs.{IsAddedUp}
use Rattle.bb_run.proofs.cost.cost_of_check.Given as goal

-- some lines were added up
abbrev pub invariant-loop-line : goal.invariant-loop-line
invariant-loop-line l = record {
  added : IsAddedUp l.limits (lines l.list) (lines l.left) l.index l.cost;
  few : l.index + length l.left ≤ length l.list;
}

abbrev pub decreases-loop-line : goal.decreases-loop-line
decreases-loop-line l = length l.left
