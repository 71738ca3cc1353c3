use Rattle.std.proofs.Common.{◌-◌}
use Rattle.bb_decide.specs.inside.Sprints.{SprintsTo}
use Rattle.bb_decide.proofs.sprint.Sprint.go_on.Given as goal

abbrev pub invariant-loop-table : goal.invariant-loop-table
invariant-loop-table g l = SprintsTo l.fn.table l.fn.barrier l.fn.self l.sprint

abbrev pub decreases-loop-table : goal.decreases-loop-table
decreases-loop-table g l = l.barrier.to - l.sprint.run.steps
