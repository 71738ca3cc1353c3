use Rattle.bb_decide.specs.inside.Sprints.{GoesOn, Stays}
use Rattle.bb_decide.proofs.sprint.Sprint.go_on.Goals as goal

pub loop-table-init : goal.loop-table-init
loop-table-init g c = Stays

pub loop-table-preserved : goal.loop-table-preserved
loop-table-preserved g c = GoesOn _ _ c.loop-table.invariant (record {
  step = c.loop-table-test.ensures;
  least = c.min.ensures;
  greatest = c.max.ensures;
})
