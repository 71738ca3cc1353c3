use Rattle.std.proofs.Common.{◌≡◌, ◌≤ℤ◌, ◌-ℤ◌}
use Rattle.std.specs.Prelude.{unsigned_abs}
use Rattle.bb_tape.specs.TapeView.{visited}
use Rattle.bb_tape.proofs.widening.widen_up_to.Given as goal

-- the window is widened up to `high`
abbrev pub invariant-loop-high : goal.invariant-loop-high
invariant-loop-high g l = record {
  view : g.T.Tape.view l.tape ≡ visited (g.T.Tape.view l.fn.tape) l.high;
  to : l.high ≤ℤ l.p;
  from : (g.T.Tape.view l.fn.tape).high ≤ℤ l.high;
}

abbrev pub decreases-loop-high : goal.decreases-loop-high
decreases-loop-high g l = unsigned_abs (l.p -ℤ l.high)
