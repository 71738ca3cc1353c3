use Rattle.std.proofs.Common.{◌≡◌, pos}
use Rattle.bb_tape.specs.TapeView.{IsBeside}
use Rattle.tests_of_parts.proofs.tape.write_upwards.Given as goal

-- the next cell may be visited
abbrev pub invariant-loop-k : goal.invariant-loop-k
invariant-loop-k g l =
    record {
      next : IsBeside (g.T.Tape.view l.tape) (pos l.k);
      limit : (g.T.Tape.view l.tape).limit ≡ (g.T.Tape.view l.fn.tape).limit;
    }
