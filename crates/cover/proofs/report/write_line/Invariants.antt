use Rattle.std.proofs.Common.{◌≡◌, false, length}
use Rattle.cover.proofs.SentLines.{SendsPart}
use Rattle.cover.proofs.report.write_line.Given as goal

-- the bytes before the rest were sent
abbrev pub invariant-loop-rest : goal.invariant-loop-rest
invariant-loop-rest g l = record {
  unmarked : l.writer.mark ≡ false;
  sent : SendsPart (g.W.Write.contents l.initial.writer.inner) (g.W.Write.contents l.writer.inner)
      l.waiting.items l.initial.rest l.rest;
}

abbrev pub decreases-loop-rest : goal.decreases-loop-rest
decreases-loop-rest g l = length l.rest
