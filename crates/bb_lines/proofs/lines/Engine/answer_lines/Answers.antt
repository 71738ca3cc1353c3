use Rattle.std.proofs.Common.{rules, [], ◌∷◌, ◌++◌, take, ◌∙◌, refl}
use Rattle.std.proofs.lemmas.Result.{err_from_is_err_and}
use Rattle.bb_lines.proofs.Prefixes.{IsTaken, all_lines, cut_after_line, cut_at_first, taken_to_end}
use Rattle.bb_lines.proofs.Progress.{answered_none, answered_more, answers_fine, fault_after}
use Rattle.bb_lines.proofs.lines.Engine.answer_lines.Given.{Over}
use Rattle.bb_lines.proofs.lines.Engine.answer_lines.Goals as goal
use Rattle.bb_lines.proofs.lines.Engine.answer_lines.Goals.{After-keep_prefix}

pub loop-at-init : goal.loop-at-init
loop-at-init g c = record {
  unmarked = c.requires.writer;
  ready = c.requires.ready;
  keeps = g.met.A.Responder.keeps_at_first c.args.self.now.responder.now;
  prompt = c.requires.prompt;
  reader = refl;
  references = (refl, refl, refl);
  ended = [];
  cut = cut_at_first g.A.Responder.KEEP c.args.self.now.kept.items c.args.piece.now c.requires.kept
      c.requires.one_line;
  answered = answered_none;
}

pub returns-in_err-answer_line-clause-answers : goal.returns-in_err-answer_line-clause-answers
returns-in_err-answer_line-clause-answers g c =
    let p = err_from_is_err_and c.from_residual.result c.from_residual.ensures.1 in
    let here = c.loop-at.invariant in
    let found = c.in-Some.ensures in
    let law = g.met.A.Responder.keeps_reply _ _ here.keeps in
    let all = all_lines here.cut c.in-Some.at found.0.high found.0.before found.1 in
    let done = c.in_err-answer_line.ensures.answers in
    rw (p.1, p.2) (record {
      ends = fault_after here.answered law _ _ all _ _ _ _ done.ends;
      prompt = λ _. tt;
      memory = done.memory;
      write = done.write;
      no_read = done.no_read;
      keeps = g.met.A.Responder.keeps_on _ _ _ here.keeps done.keeps;
      ready = done.ready;
    })

pub loop-at-preserved : goal.loop-at-preserved
loop-at-preserved g c =
    let here = c.loop-at.invariant in
    let found = c.in-Some.ensures in
    let done = c.in_ok-answer_line.ensures in
    let law = g.met.A.Responder.keeps_reply _ _ here.keeps in
    record {
      unmarked = search rules;
      ready = done.answers.ready;
      keeps = g.met.A.Responder.keeps_on _ _ _ here.keeps done.answers.keeps;
      prompt = done.answers.prompt;
      reader = done.reader ∙ here.reader;
      references = (
        done.references.0 ∙ here.references.0,
        done.references.1 ∙ here.references.1,
        done.references.2
            ∙ here.references.2,
      );
      ended = here.ended
          ++ take g.A.Responder.KEEP (c.loop-at.self.kept.items ++ take c.in-Some.at c.loop-at.rest.now) ∷ [];
      cut = cut_after_line here.cut c.in-Some.at found.0.high found.0.before found.1 done.kept;
      answered = answered_more here.answered law done.answers.ends;
    }

-- all of the piece
taken : (g : Over) (c : After-keep_prefix g)
    → IsTaken g.A.Responder.KEEP (c.args.self.now.kept.items ++ c.args.piece.now) c.loop-at.invariant.ended
    c.keep_prefix.new.kept.items
taken g c = taken_to_end c.loop-at.invariant.cut c.in_default.ensures c.bytes_kept-most.ensures
    c.keep_prefix.ensures

pub returns-clause-answers : goal.returns-clause-answers
returns-clause-answers g c =
    let here = c.loop-at.invariant in
    answers_fine here.keeps here.ready (rw (taken g c).is_ended here.answered) here.prompt here.unmarked

pub returns-clause-kept : goal.returns-clause-kept
returns-clause-kept g c = (taken g c).is_kept

pub returns-clause-one_line : goal.returns-clause-one_line
returns-clause-one_line g c = (taken g c).one_line
