use Rattle.std.proofs.Common.{rules, [], ◌++◌, take, ◌∙◌, refl}
use Rattle.std.proofs.lemmas.Result.{err_from_is_err_and}
use Rattle.std.proofs.KnownBytes.{Consumes-nil, Consumes-trans}
use Rattle.bb_lines.specs.Lines.{complete}
use Rattle.bb_lines.specs.Watched.{watched_inner}
use Rattle.bb_lines.specs.inside.Progress.{prefixes, AreAnswered}
use Rattle.bb_lines.proofs.Prefixes.{IsTaken, few_kept, lines_more, taken_lines, taken_more, taken_none}
use Rattle.bb_lines.proofs.Progress.{answered_none, answered_written, answered_more, prefix_written}
use Rattle.bb_lines.proofs.Progress.{replies_written}
use Rattle.bb_lines.proofs.Progress.{prefix_more, fault_after_none, AppendsPrefixOfReplies-writes}
use Rattle.bb_lines.proofs.lines.Engine.answer_reads.Given.{Over}
use Rattle.bb_lines.proofs.lines.Engine.answer_reads.Goals as goal
use Rattle.bb_lines.proofs.lines.Engine.answer_reads.Goals.{After-answer_lines}

pub loop-self-init : goal.loop-self-init
loop-self-init g c = record {
  reader_unmarked = c.requires.reader;
  writer_unmarked = c.requires.writer;
  ready = c.requires.ready;
  keeps = g.met.A.Responder.keeps_at_first c.args.self.now.responder.now;
  references = (refl, refl, refl);
  past = [];
  consumed = Consumes-nil _;
  ended = [];
  taken = taken_none _ c.requires.kept;
  answered = rw c.requires.waiting answered_none;
}

pub returns-in_err-write_waiting-clause-ends : goal.returns-in_err-write_waiting-clause-ends
returns-in_err-write_waiting-clause-ends g c =
    let p = err_from_is_err_and c.from_residual.result c.from_residual.ensures.1 in
    let here = c.loop-self.invariant in
    let after = c.in_err-write_waiting.ensures in
    let some = prefix_written here.answered after.err in (
      here.past,
      here.consumed,
      rw (p.1, p.2, after.only_write, taken_lines here.taken g.met.A.Responder.keeps_some)
          (AppendsPrefixOfReplies-writes (prefix_more _ some)),
    )

-- what waited was written before the read
answered_now : (g : Over) (c : After-answer_lines g)
    → AreAnswered (g.A.Responder.replies_with c.args.self.now.responder.now) g.A.Responder.saw
    (g.W.Write.contents (watched_inner c.args.self.now.writer.now))
    (g.W.Write.contents (watched_inner c.read_chunk.new.self.writer.now))
    [] c.read_chunk.new.self.waiting.items
    c.args.self.now.responder.now c.read_chunk.new.self.responder.now c.loop-self.invariant.ended
answered_now g c =
    let read = c.in-Ok.ensures in
    rw (read.writer, read.waiting, read.responder, c.in_ok-write_waiting.ensures.empty)
    (answered_written c.loop-self.invariant.answered c.in_ok-write_waiting.ensures.ok)

keeps_now : (g : Over) (c : After-answer_lines g)
    → g.A.Responder.keeps c.args.self.now.responder.now c.read_chunk.new.self.responder.now
keeps_now g c = rw c.in-Ok.ensures.responder c.loop-self.invariant.keeps

taken_now : (g : Over) (c : After-answer_lines g)
    → IsTaken g.A.Responder.KEEP c.loop-self.invariant.past c.loop-self.invariant.ended
    c.read_chunk.new.self.kept.items
taken_now g c = rw c.in-Ok.ensures.kept c.loop-self.invariant.taken

pub answer_lines-requires-clause-kept : goal.answer_lines-requires-clause-kept
answer_lines-requires-clause-kept g c = rw c.in-Ok.ensures.kept (few_kept c.loop-self.invariant.taken)

pub answer_lines-requires-clause-one_line : goal.answer_lines-requires-clause-one_line
answer_lines-requires-clause-one_line g c = rw c.in-Ok.ensures.kept c.loop-self.invariant.taken.one_line

pub loop-self-preserved : goal.loop-self-preserved
loop-self-preserved g c =
    let at = (goal.at.loop-self-preserved g c).After-answer_lines in
    let here = c.loop-self.invariant in
    let read = c.in-Ok.ensures in
    let done = c.in_ok-answer_lines.ensures in
    let piece = take c.in-Ok.n c.read_chunk.new.chunk in
    let law = g.met.A.Responder.keeps_reply _ _ (keeps_now g at) in
    record {
      reader_unmarked = search rules;
      writer_unmarked = search rules;
      ready = done.answers.ready;
      keeps = g.met.A.Responder.keeps_on _ _ _ (keeps_now g at) done.answers.keeps;
      references = (
        done.references.0 ∙ read.references.0 ∙ here.references.0,
        done.references.1 ∙ read.references.1
            ∙ here.references.1,
        done.references.2 ∙ read.references.2 ∙ here.references.2,
      );
      past = here.past ++ piece;
      consumed = rw done.reader (Consumes-trans _ _ _ here.past _ here.consumed read.bytes.0);
      ended = here.ended
          ++ prefixes g.A.Responder.KEEP (complete (c.read_chunk.new.self.kept.items ++ piece));
      taken = taken_more (taken_now g at) piece done.one_line done.kept;
      answered = answered_more (answered_now g at) law done.answers.ends;
    }

pub returns-in_err-answer_lines-clause-ends : goal.returns-in_err-answer_lines-clause-ends
returns-in_err-answer_lines-clause-ends g c =
    let p = err_from_is_err_and c.from_residual-in_err-answer_lines.result
    c.from_residual-in_err-answer_lines.ensures.1 in
    let at = (goal.at.returns-in_err-answer_lines-clause-ends g c).After-answer_lines in
    let here = c.loop-self.invariant in
    let done = c.in_err-answer_lines.ensures in
    let piece = take c.in-Ok.n c.read_chunk.new.chunk in
    let law = g.met.A.Responder.keeps_reply _ _ (keeps_now g at) in
    let all = lines_more (taken_now g at) g.met.A.Responder.keeps_some piece in (
      here.past ++ piece,
      rw done.reader (Consumes-trans _ _ _ here.past _ here.consumed c.in-Ok.ensures.bytes.0),
      rw (p.1, p.2) (fault_after_none (answered_now g at) law _ _ _ all _ _ _ _ done.answers.ends),
    )

pub returns-in-Err-clause-ends : goal.returns-in-Err-clause-ends
returns-in-Err-clause-ends g c =
    let here = c.loop-self.invariant in (
      here.past,
      search rules,
      rw (here.taken.is_ended, c.in-Err.ensures.writer)
          (replies_written here.answered c.in_ok-write_waiting.ensures.ok),
    )

pub returns-then-n-eq0-clause-ends : goal.returns-then-n-eq0-clause-ends
returns-then-n-eq0-clause-ends g c =
    let here = c.loop-self.invariant in
    let read = c.in-Ok.ensures in (
      here.past,
      search rules,
      (
        search rules,
        rw (here.taken.is_ended, read.writer)
            (replies_written here.answered c.in_ok-write_waiting.ensures.ok),
        rw (here.taken.is_ended, read.responder) here.answered.seen,
        rw read.kept here.taken.is_kept,
      ),
    )

pub returns-then-n-eq0-clause-kept : goal.returns-then-n-eq0-clause-kept
returns-then-n-eq0-clause-kept g c = rw c.in-Ok.ensures.kept (few_kept c.loop-self.invariant.taken)
