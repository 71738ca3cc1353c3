use Rattle.std.proofs.Common.{◌≡◌, ◌<◌, List, ℕ, [], false, length}
use Rattle.bb_lines.specs.Cost.{high_cost}
use Rattle.bb_lines.specs.Watched.{is_marked, watched_inner}
use Rattle.bb_lines.specs.inside.Progress.{AreAnswered, KeepsReferences}
use Rattle.bb_lines.proofs.Prefixes.{IsCut}
use Rattle.bb_lines.proofs.lines.Engine.answer_lines.Given as goal

-- the lines that end in the piece before what is left of it are answered
abbrev pub invariant-loop-at : goal.invariant-loop-at
invariant-loop-at g l = record {
  unmarked : is_marked l.self.writer.now ≡ false;
  ready : g.A.Responder.is_ready l.self.responder.now;
  keeps : g.A.Responder.keeps l.initial.self.responder.now l.self.responder.now;
  prompt : high_cost < g.A.Responder.cost l.self.responder.now → l.self.waiting.items ≡ [];
  reader : l.self.reader.now ≡ l.initial.self.reader.now;
  references : KeepsReferences l.initial.self l.self;
  ended : List (List ℕ);
  cut : IsCut g.A.Responder.KEEP l.initial.self.kept.items l.initial.rest l.rest ended l.self.kept.items;
  answered : AreAnswered (g.A.Responder.replies_with l.initial.self.responder.now) g.A.Responder.saw
      (g.W.Write.contents (watched_inner l.initial.self.writer.now))
      (g.W.Write.contents (watched_inner l.self.writer.now))
      l.initial.self.waiting.items l.self.waiting.items l.initial.self.responder.now l.self.responder.now
      ended;
}

abbrev pub decreases-loop-at : goal.decreases-loop-at
decreases-loop-at g l = length l.rest
