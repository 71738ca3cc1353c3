use Rattle.std.proofs.Common.{◌≡◌, ◌≤◌, ◌+◌, ◌-◌}
use Rattle.bb_sim.specs.Runner.{steps_of}
use Rattle.bb_recurrence.specs.Pairs.{IsAtStep}
use Rattle.bb_recurrence.proofs.recurrence.KnownPair.run_to.Given as goal

abbrev pub invariant-loop-runner : goal.invariant-loop-runner
invariant-loop-runner g l = record {
  at : IsAtStep l.self (steps_of l.runner) l.runner (g.T.Tape.view l.tape);
  within : steps_of l.runner ≤ l.to;
  later : steps_of l.fn.runner ≤ steps_of l.runner;
  goes_on : g.C.Course.goes_on l.self.machine.now (steps_of l.fn.runner) (steps_of l.runner) l.fn.course l.course;
  counted : l.meter.steps ≡ l.fn.meter.steps + (steps_of l.runner - steps_of l.fn.runner);
}

abbrev pub decreases-loop-runner : goal.decreases-loop-runner
decreases-loop-runner g l = l.to - steps_of l.runner
