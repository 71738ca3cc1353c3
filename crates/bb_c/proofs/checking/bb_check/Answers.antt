use Rattle.std.proofs.Common.{rules, ◌≡◌, arith, length}
use Rattle.bb_lines.specs.Lines.{lines}
use Rattle.bb_run.proofs.Facts.{check_reply_short}
use Rattle.bb_c.proofs.Given.{filled_by, too_short_by}
use Rattle.bb_c.proofs.Lengths.{replies_fit, room_of_words}
use Rattle.bb_c.proofs.checking.bb_check.Goals as goal

pub returns-in-Ok-answers-clause-enough : goal.returns-in-Ok-answers-clause-enough
returns-in-Ok-answers-clause-enough c = λ enough.
    let fit = replies_fit _ (λ line. 6) (check_reply_short _) (lines c.args.list.now) _
    c.in-Ok-answers.ensures.replies in
    let same : length c.as_slice.result.now ≡ length c.in-Ok-answers.replies.items = search rules in
    c.fill_buffer.ensures.enough (omega (arith, enough, fit, room_of_words (lines c.args.list.now), same))

pub returns-in-Ok-answers-clause-replies : goal.returns-in-Ok-answers-clause-replies
returns-in-Ok-answers-clause-replies c = λ is.
    let replies = rw c.in-Ok.ensures.given at c.in-Ok-answers.ensures.replies in
    filled_by _ _ _ _ _ _ (c.fill_buffer.ensures.filled is) c.as_slice.ensures.value replies

pub returns-in-Ok-answers-clause-short : goal.returns-in-Ok-answers-clause-short
returns-in-Ok-answers-clause-short c = λ is.
    let replies = rw c.in-Ok.ensures.given at c.in-Ok-answers.ensures.replies in
    too_short_by _ _ _ _ _ _ (c.fill_buffer.ensures.short is) c.as_slice.ensures.value replies

pub returns-in-Ok-answers-clause-clean : goal.returns-in-Ok-answers-clause-clean
returns-in-Ok-answers-clause-clean c = λ is.
    let clean = rw c.in-Ok.ensures.given at c.in-Ok-answers.ensures.clean in
    clean.0 (c.fill_buffer.ensures.clean is)
