use Rattle.std.proofs.Common.{◌≡◌, ℕ, ◌-◌, ◌^◌, List, false}
use Rattle.std.specs.List.{FoldsTo}
use Rattle.std.specs.Io.KnownBytes.{Consumes}
use Rattle.bb_lines.specs.Watched.{is_marked, watched_inner}
use Rattle.bb_lines.proofs.Prefixes.{IsTaken}
use Rattle.bb_lines.proofs.sink.drain_reads.Given as goal

-- the lines that end in the bytes that were read so far are taken
abbrev pub invariant-loop-n : goal.invariant-loop-n
invariant-loop-n g l = record {
  unmarked : is_marked l.reader ≡ false;
  ready : g.A.LineSink.is_ready l.sink;
  keeps : g.A.LineSink.keeps l.initial.sink l.sink;
  past : List ℕ;
  consumed : Consumes (g.R.Read.remaining (watched_inner l.initial.reader))
      (g.R.Read.remaining (watched_inner l.reader)) past;
  ended : List (List ℕ);
  taken : IsTaken g.A.LineSink.KEEP past ended l.kept.items;
  took : FoldsTo g.A.LineSink.took l.initial.sink ended l.sink;
}

abbrev pub decreases-loop-n : goal.decreases-loop-n
decreases-loop-n g l = 2 ^ 64 - 1 - l.reader.reads
