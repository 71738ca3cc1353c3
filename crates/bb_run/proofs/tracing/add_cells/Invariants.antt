use Rattle.std.proofs.Common.{◌≡◌, false}
use Rattle.bb_sim.specs.Runner.{low_of}
use Rattle.bb_lines.specs.Output.{Sends}
use Rattle.bb_lines.specs.Watched.{is_marked, watched_inner}
use Rattle.bb_run.specs.Trace.{cells_text}
use Rattle.bb_run.proofs.tracing.add_cells.Given as goal

-- the digits of the cells before this one are sent
abbrev pub invariant-loop-i : goal.invariant-loop-i
invariant-loop-i g l = record {
  unmarked : is_marked l.writer ≡ false;
  sent : Sends (g.W.Write.contents (watched_inner l.fn.writer)) (g.W.Write.contents (watched_inner l.writer))
      l.fn.waiting.items l.waiting.items (cells_text (g.T.Tape.view l.tape).content (low_of l.runner) l.i);
}
