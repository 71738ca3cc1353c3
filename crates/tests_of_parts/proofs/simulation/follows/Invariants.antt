use Rattle.std.proofs.Common.{◌≡◌}
use Rattle.bb_sim.specs.Runner.{Stands}
use Rattle.tests_of_parts.proofs.simulation.follows.Given as goal

-- the runner stands on the tape
abbrev pub invariant-loop-n : goal.invariant-loop-n
invariant-loop-n g l = record {
  stands : Stands l.machine l.runner (g.T.Tape.view l.tape);
  limit : (g.T.Tape.view l.tape).limit ≡ l.limits.cells;
}
