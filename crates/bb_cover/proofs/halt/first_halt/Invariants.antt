use Rattle.std.proofs.Common.{◌≡◌, ◌-◌, ◌≤◌}
use Rattle.bb_sim.specs.Runner.{Stands, steps_of}
use Rattle.bb_cover.proofs.halt.first_halt.Given as goal

abbrev pub invariant-loop-runner : goal.invariant-loop-runner
invariant-loop-runner g l = record {
  stands : Stands l.machine l.runner (g.T.Tape.view l.tape);
  steps : steps_of l.runner ≤ l.limits.steps;
  spent : l.meter.steps ≤ steps_of l.runner;
  limit : (g.T.Tape.view l.tape).limit ≡ l.limits.cells;
}

abbrev pub decreases-loop-runner : goal.decreases-loop-runner
decreases-loop-runner g l = l.limits.steps - steps_of l.runner
