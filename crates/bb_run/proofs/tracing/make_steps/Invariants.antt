use Rattle.std.proofs.Common.{◌≡◌, ◌+◌, ◌≤◌}
use Rattle.bb_sim.specs.Runner.{Stands, steps_of}
use Rattle.bb_run.proofs.tracing.make_steps.Given as goal

-- the runner stands so many steps on, within the limits
abbrev pub invariant-loop : goal.invariant-loop
invariant-loop g l = record {
  stands : Stands l.machine l.runner (g.T.Tape.view l.tape);
  limit : (g.T.Tape.view l.tape).limit ≡ l.limits.cells;
  made : steps_of l.runner ≡ steps_of l.fn.runner + l.counter;
  within : steps_of l.runner ≤ l.limits.steps;
  counted : l.meter.steps ≡ l.counter;
}
