use Rattle.std.proofs.Common.{◌≡◌, [], false, length}
use Rattle.bb_lines.specs.Output.{Sends}
use Rattle.bb_lines.proofs.output.write_waiting.Given as goal

-- what is left to write waits
abbrev pub invariant-loop-rest : goal.invariant-loop-rest
invariant-loop-rest g l = record {
  unmarked : l.writer.mark ≡ false;
  sent : Sends (g.W.Write.contents l.initial.writer.inner)
      (g.W.Write.contents l.writer.inner) l.initial.rest l.rest [];
}

abbrev pub decreases-loop-rest : goal.decreases-loop-rest
decreases-loop-rest g l = length l.rest
