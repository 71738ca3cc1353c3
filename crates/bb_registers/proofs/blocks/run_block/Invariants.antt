use Rattle.std.proofs.Common.{◌-◌, ◌≤◌}
use Rattle.bb_registers.specs.Blocks.{IsBlockRun}
use Rattle.bb_registers.proofs.blocks.run_block.Given as goal

abbrev pub invariant-loop-table : goal.invariant-loop-table
invariant-loop-table g l = record {
  run : IsBlockRun l.machine l.limits l.from (g.T.Tape.view l.tape) l.run;
  more : l.start.steps ≤ l.run.steps;
}

abbrev pub decreases-loop-table : goal.decreases-loop-table
decreases-loop-table g l = l.limits.steps - l.run.steps
