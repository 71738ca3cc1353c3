use Rattle.std.proofs.Common.{◌≡◌, ◌<◌, length, ◌∙◌, sym, arith}
use Rattle.std.proofs.lemmas.Grind.{common_steps}
use Rattle.std.proofs.lemmas.List.{append-nil}
use Rattle.std.proofs.lemmas.Result.{err_from_is_err_and}
use Rattle.bb_lines.proofs.Ends.{fault_of_prefixes, end_of_prefixes, answered_of_written, prefixes-some}
use Rattle.bb_lines.proofs.Ends.{prefixes-no_more}
use Rattle.bb_lines.proofs.Progress.{answered_more, fault_after_none, ends_at_last}
use Rattle.bb_lines.proofs.lines.Engine.answer_all.Goals as goal
use Rattle.bb_lines.proofs.lines.Engine.answer_all.Goals.{then-not-is_empty+in_ok-answer_kept}
use Rattle.bb_lines.proofs.lines.Engine.answer_all.Goals.{else-not-is_empty}

pub returns-in_err-answer_reads-clause-ends : goal.returns-in_err-answer_reads-clause-ends
returns-in_err-answer_reads-clause-ends g c =
    let p = err_from_is_err_and c.from_residual.result c.from_residual.ensures.1 in
    let ends = c.in_err-answer_reads.ensures.ends in
    let law = g.met.A.Responder.reply_by_kept c.args.self.now.responder.now in
    rw (p.1, p.2)
    (fault_of_prefixes g.A.Responder.KEEP law _ _ _ _ ends.0 ends.1 g.A.Responder.saw _ _ _ _ ends.2)

pub returns-in_err-answer_kept-clause-ends : goal.returns-in_err-answer_kept-clause-ends
returns-in_err-answer_kept-clause-ends g c =
    let p = err_from_is_err_and c.from_residual-in_err-answer_kept.result
    c.from_residual-in_err-answer_kept.ensures.1 in
    let read = c.in_ok-answer_reads.ensures in
    let ends = read.ends in
    let done = c.in_err-answer_kept.ensures in
    let some : 0 < length c.answer_reads.new.self.kept.items = grind (arith, common_steps) in
    let before = answered_of_written g.A.Responder.saw read.written ends.2.1 ends.2.2 in
    let all = prefixes-some g.A.Responder.KEEP ends.0 g.met.A.Responder.keeps_some ends.2.3 some
    ∙ sym (append-nil _) in
    let reply_law = g.met.A.Responder.reply_by_kept c.args.self.now.responder.now in
    let law = g.met.A.Responder.keeps_reply _ _ read.keeps in
    rw (p.1, p.2)
    (fault_of_prefixes g.A.Responder.KEEP reply_law _ _ _ _ ends.0 (rw done.reader ends.1)
    g.A.Responder.saw _ _ ⊥ c.in_err-answer_kept.field-0.0
    (fault_after_none before law _ _ _ all _ ⊥ _ c.in_err-answer_kept.field-0.0 done.answers.ends))

pub returns-clause-ends : goal.returns-clause-ends
returns-clause-ends g c =
    let read = c.in_ok-answer_reads.ensures in
    let ends = read.ends in
    let after = c.write_and_flush.ensures in
    let reply_law = g.met.A.Responder.reply_by_kept c.args.self.now.responder.now in
    let law = g.met.A.Responder.keeps_reply _ _ read.keeps in
    let before = answered_of_written g.A.Responder.saw read.written ends.2.1 ends.2.2 in
    elim c.if-not-is_empty.branch [
      | then-not-is_empty+in_ok-answer_kept w ↦ (
          let some : 0 < length c.answer_reads.new.self.kept.items = let is = w.if-not-is_empty.true in
          grind (arith, common_steps) in
          let done = w.in_ok-answer_kept.ensures in
          let all = prefixes-some g.A.Responder.KEEP ends.0 g.met.A.Responder.keeps_some ends.2.3 some in
          end_of_prefixes g.A.Responder.KEEP reply_law _ _ _ _ ends.0 (rw (w.self-is, done.reader) ends.1)
          g.met.A.Responder.saw_by_kept _ _ _ (rw (w.self-is, done.reader) ends.2.0)
          (rw all (ends_at_last (rw w.self-is (answered_more before law done.answers.ends)) _ _ after.ok
          after.only_write after.err)))
      | else-not-is_empty w ↦ (
          let empty : length c.answer_reads.new.self.kept.items ≡ 0 = let is = w.if-not-is_empty.false in
          grind (arith, common_steps) in
          let all = prefixes-no_more g.A.Responder.KEEP ends.0 g.met.A.Responder.keeps_some ends.2.3 empty in
          end_of_prefixes g.A.Responder.KEEP reply_law _ _ _ _ ends.0 (rw w.self-is ends.1)
          g.met.A.Responder.saw_by_kept _ _ _ (rw w.self-is ends.2.0)
          (rw all (ends_at_last (rw w.self-is before) _ _ after.ok after.only_write after.err)))
    ]
