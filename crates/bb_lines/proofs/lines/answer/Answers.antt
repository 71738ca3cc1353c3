use Rattle.bb_lines.specs.Watched.{watched_inner}
use Rattle.std.proofs.Common.{[], ◌∷◌, arith}
use Rattle.std.proofs.lemmas.Result.{err_from_is_err_and}
use Rattle.bb_lines.specs.inside.Progress.{AreAnswered}
use Rattle.bb_lines.proofs.Progress.{answered_one, answers_by_write, answers_fine, answers_until_write}
use Rattle.bb_lines.proofs.Progress.{prefix_before}
use Rattle.bb_lines.proofs.lines.answer.Given.{Over}
use Rattle.bb_lines.proofs.lines.answer.Goals as goal
use Rattle.bb_lines.proofs.lines.answer.Goals.{In_ok-add_line}

pub returns-in_err-write_waiting-in-Err : goal.returns-in_err-write_waiting-in-Err
returns-in_err-write_waiting-in-Err g c =
    let p = err_from_is_err_and c.from_residual.result c.from_residual.ensures.1 in
    let after = c.in_err-write_waiting-in-Err.ensures in
    rw (p.1, p.2, after.only_write)
    (answers_until_write c.in-Err.ensures.keeps c.in-Err.ensures.ready after.mark (prefix_before after.err))

pub returns-in_err-add_line : goal.returns-in_err-add_line
returns-in_err-add_line g c =
    let p = err_from_is_err_and c.from_residual-in_err-add_line.result
    c.from_residual-in_err-add_line.ensures.1 in
    let after = c.in_err-add_line.ensures in
    rw (p.1, p.2, after.only_write)
    (answers_until_write c.in-Ok.ensures.keeps c.in-Ok.ensures.ready after.mark (prefix_before after.err))

-- the line is answered, and its reply waits
line_answered : (g : Over) (c : In_ok-add_line g)
    → AreAnswered (g.A.Responder.replies_with c.args.responder.now) g.A.Responder.saw
    (g.W.Write.contents (watched_inner c.args.writer.now))
    (g.W.Write.contents (watched_inner c.add_line.new.writer)) c.args.waiting.now.items
    c.add_line.new.waiting.items c.args.responder.now c.respond.new.self (c.args.line.now ∷ [])
line_answered g c =
    answered_one _ c.in-Ok.ensures.reply c.in-Ok.ensures.saw
    (rw c.as_slice.ensures.value at c.in_ok-add_line.ensures.sent)

pub returns-then-cost-gt-HIGH_COST : goal.returns-then-cost-gt-HIGH_COST
returns-then-cost-gt-HIGH_COST g c =
    let after = c.write_waiting-then-cost-gt-HIGH_COST.ensures in
    answers_by_write c.in-Ok.ensures.keeps c.in-Ok.ensures.ready
    (line_answered g (goal.at.returns-then-cost-gt-HIGH_COST g c).In_ok-add_line) _ after.ok after.empty
    after.only_write after.err after.mark

pub returns : goal.returns
returns g c =
    answers_fine c.in-Ok.ensures.keeps c.in-Ok.ensures.ready
    (line_answered g (goal.at.returns g c).In_ok-add_line)
    (λ long. absurd (omega (arith, long, c.in-Ok.ensures.cost, c.if-cost-gt-HIGH_COST.false)))
    c.in_ok-add_line.ensures.mark
