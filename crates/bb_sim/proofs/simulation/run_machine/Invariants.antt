use Rattle.std.proofs.Common.{◌≡◌, ◌-◌}
use Rattle.bb_sim.specs.declared.meter.Meter.{Meter}
use Rattle.bb_sim.specs.Meter.{CountsTo}
use Rattle.bb_sim.specs.Runner.{steps_of}
use Rattle.bb_sim.proofs.Counting.{RunsWithin}
use Rattle.bb_sim.proofs.simulation.run_machine.Given as goal

-- the runner stands within the limits, and what the run has done so far is counted, whatever was before it
abbrev pub invariant-loop-runner : goal.invariant-loop-runner
invariant-loop-runner g l = record {
  run : (begun : Meter) → CountsTo l.machine (steps_of l.fn.runner) begun l.fn.meter
      → RunsWithin l.machine l.limits l.runner (g.T.Tape.view l.tape) begun l.meter;
  limit : (g.T.Tape.view l.tape).limit ≡ l.limits.cells;
}

abbrev pub decreases-loop-runner : goal.decreases-loop-runner
decreases-loop-runner g l = l.limits.steps - steps_of l.runner
