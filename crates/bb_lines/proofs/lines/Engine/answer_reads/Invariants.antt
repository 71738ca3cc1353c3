use Rattle.std.proofs.Common.{◌≡◌, ℕ, ◌-◌, ◌^◌, List, [], false}
use Rattle.std.specs.Io.KnownBytes.{Consumes}
use Rattle.bb_lines.specs.Watched.{is_marked, watched_inner}
use Rattle.bb_lines.specs.inside.Progress.{AreAnswered, KeepsReferences}
use Rattle.bb_lines.proofs.Prefixes.{IsTaken}
use Rattle.bb_lines.proofs.lines.Engine.answer_reads.Given as goal

-- the lines that end in the bytes that were taken so far are answered
abbrev pub invariant-loop-self : goal.invariant-loop-self
invariant-loop-self g l = record {
  reader_unmarked : is_marked l.self.reader.now ≡ false;
  writer_unmarked : is_marked l.self.writer.now ≡ false;
  ready : g.A.Responder.is_ready l.self.responder.now;
  keeps : g.A.Responder.keeps l.initial.self.responder.now l.self.responder.now;
  references : KeepsReferences l.initial.self l.self;
  past : List ℕ;
  consumed : Consumes (g.R.Read.remaining (watched_inner l.initial.self.reader.now))
      (g.R.Read.remaining (watched_inner l.self.reader.now)) past;
  ended : List (List ℕ);
  taken : IsTaken g.A.Responder.KEEP past ended l.self.kept.items;
  answered : AreAnswered (g.A.Responder.replies_with l.initial.self.responder.now) g.A.Responder.saw
      (g.W.Write.contents (watched_inner l.initial.self.writer.now))
      (g.W.Write.contents (watched_inner l.self.writer.now)) [] l.self.waiting.items
      l.initial.self.responder.now l.self.responder.now ended;
}

abbrev pub decreases-loop-self : goal.decreases-loop-self
decreases-loop-self g l = 2 ^ 64 - 1 - l.self.reader.now.reads
