use Rattle.std.proofs.Common.{◌≡◌, ◌≤ℤ◌, ◌-ℤ◌}
use Rattle.std.specs.Prelude.{unsigned_abs}
use Rattle.bb_tape.specs.TapeView.{visited}
use Rattle.bb_tape.proofs.widening.widen_down_to.Given as goal

-- the window is widened down to `low`
abbrev pub invariant-loop-low : goal.invariant-loop-low
invariant-loop-low g l = record {
  view : g.T.Tape.view l.tape ≡ visited (g.T.Tape.view l.fn.tape) l.low;
  from : l.p ≤ℤ l.low;
  to : l.low ≤ℤ (g.T.Tape.view l.fn.tape).low;
}

abbrev pub decreases-loop-low : goal.decreases-loop-low
decreases-loop-low g l = unsigned_abs (l.low -ℤ l.p)
