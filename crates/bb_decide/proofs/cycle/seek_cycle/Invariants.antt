use Rattle.std.proofs.Common.{◌≡◌, ◌*◌, ◌-◌}
use Rattle.bb_sim.specs.Runner.{steps_of}
use Rattle.bb_decide.proofs.Benches.{IsAsLent}
use Rattle.bb_decide.proofs.Cycles.{IsInCycleSearch}
use Rattle.bb_decide.proofs.cycle.seek_cycle.Given as goal

-- no step up to where the runner stands is a cycle; what is kept stays up to the step that is twice its own
abbrev pub invariant-loop-moved : goal.invariant-loop-moved
invariant-loop-moved g l = record {
  search : IsInCycleSearch l.machine l.limits l.runner l.kept (g.T.Tape.view l.bench.run)
      (g.T.Tape.view l.bench.right);
  lent : IsAsLent g.T.Tape.view l.limits.cells l.fn.bench l.bench l.fn.meter l.meter;
  next : l.next_kept ≡ 2 * steps_of l.kept;
}

abbrev pub decreases-loop-moved : goal.decreases-loop-moved
decreases-loop-moved g l = l.limits.steps - steps_of l.runner
