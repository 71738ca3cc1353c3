use Rattle.std.proofs.Common.{◌≡◌, ◌≤◌, ◌-◌}
use Rattle.bb_sim.specs.Meter.{IsWithinRun, zero_meter}
use Rattle.bb_cert.proofs.checker.replay.go_on.Given as goal

-- the run is under way, and not past the step
abbrev pub invariant-loop-run : goal.invariant-loop-run
invariant-loop-run g l = record {
  under_way : g.R.Steps.is_under_way l.machine l.limits l.run (g.T.Tape.view l.tape) l.meter;
  counted : IsWithinRun l.limits zero_meter l.meter;
  ahead : g.R.Steps.made l.run ≤ l.step;
  further : g.R.Steps.made l.fn.start ≤ g.R.Steps.made l.run;
  limit : (g.T.Tape.view l.tape).limit ≡ (g.T.Tape.view l.fn.tape).limit;
  goes_on : g.C.Course.goes_on l.machine (g.R.Steps.made l.fn.start) (g.R.Steps.made l.run) l.fn.from l.course;
  goes_along : g.A.Course.goes_on l.machine (g.R.Steps.made l.fn.start) (g.R.Steps.made l.run) l.fn.along l.along;
}

abbrev pub decreases-loop-run : goal.decreases-loop-run
decreases-loop-run g l = l.step - g.R.Steps.made l.run
