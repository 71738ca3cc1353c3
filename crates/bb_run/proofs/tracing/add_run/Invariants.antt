use Rattle.std.proofs.Common.{◌≡◌, ◌-◌, ◌+◌, false}
use Rattle.bb_sim.specs.Runner.{Stands, steps_of}
use Rattle.bb_sim.specs.Span.{Inside}
use Rattle.bb_lines.specs.Watched.{is_marked, watched_inner}
use Rattle.bb_run.proofs.TraceEnds.{HasPrinted}
use Rattle.bb_run.proofs.tracing.add_run.Given as goal

-- the runner stands inside the limits, so many steps before the next one that is printed, and the lines of
-- those before are sent
abbrev pub invariant-loop-runner : goal.invariant-loop-runner
invariant-loop-runner g l = record {
  stands : Stands l.machine l.runner (g.T.Tape.view l.tape);
  limit : (g.T.Tape.view l.tape).limit ≡ l.limits.cells;
  inside : Inside l.machine l.limits (steps_of l.runner);
  unmarked : is_marked l.writer ≡ false;
  printed : HasPrinted l.form l.machine l.fn.from l.every (steps_of l.runner) (steps_of l.runner + l.left)
      (g.W.Write.contents (watched_inner l.fn.writer)) (g.W.Write.contents (watched_inner l.writer))
      l.waiting.items;
}

abbrev pub decreases-loop-runner : goal.decreases-loop-runner
decreases-loop-runner g l = (l.limits.steps + 1) - (steps_of l.runner + l.left)
