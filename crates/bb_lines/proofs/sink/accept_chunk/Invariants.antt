use Rattle.std.proofs.Common.{List, ℕ, length}
use Rattle.std.specs.List.{FoldsTo}
use Rattle.bb_lines.proofs.Prefixes.{IsCut}
use Rattle.bb_lines.proofs.sink.accept_chunk.Given as goal

-- the lines that end in the piece before what is left of it are taken
abbrev pub invariant-loop-at : goal.invariant-loop-at
invariant-loop-at g l = record {
  ready : g.A.LineSink.is_ready l.sink;
  keeps : g.A.LineSink.keeps l.initial.sink l.sink;
  ended : List (List ℕ);
  cut : IsCut g.A.LineSink.KEEP l.initial.kept.items l.initial.rest l.rest ended l.kept.items;
  took : FoldsTo g.A.LineSink.took l.initial.sink ended l.sink;
}

abbrev pub decreases-loop-at : goal.decreases-loop-at
decreases-loop-at g l = length l.rest
