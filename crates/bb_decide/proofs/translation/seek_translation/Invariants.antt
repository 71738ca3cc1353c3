use Rattle.std.proofs.Common.{◌-◌}
use Rattle.bb_sim.specs.Runner.{steps_of}
use Rattle.bb_decide.proofs.Benches.{IsAsLent}
use Rattle.bb_decide.proofs.Translations.{IsInRecordSearch}
use Rattle.bb_decide.proofs.translation.seek_translation.Given as goal

-- no record up to where the runner stands agrees with its partner
abbrev pub invariant-loop-moved : goal.invariant-loop-moved
invariant-loop-moved g l = record {
  search : IsInRecordSearch l.machine l.limits l.runner (g.T.Tape.view l.bench.run) l.right l.left
      (g.T.Tape.view l.bench.right) (g.T.Tape.view l.bench.left);
  lent : IsAsLent g.T.Tape.view l.limits.cells l.fn.bench l.bench l.fn.meter l.meter;
}

abbrev pub decreases-loop-moved : goal.decreases-loop-moved
decreases-loop-moved g l = l.limits.steps - steps_of l.runner
