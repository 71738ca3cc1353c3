use Rattle.std.proofs.Common.{rules, ◌≡◌, ◌+◌, arith, length}
use Rattle.bb_lines.specs.Lines.{lines}
use Rattle.bb_run.proofs.Facts.{reply_short}
use Rattle.bb_c.proofs.Given.{filled_by, too_short_by}
use Rattle.bb_c.proofs.Lengths.{replies_fit, room_in_list}
use Rattle.bb_c.proofs.deciding.bb_decide.Goals as goal

pub returns-in-Ok-verdicts-clause-enough : goal.returns-in-Ok-verdicts-clause-enough
returns-in-Ok-verdicts-clause-enough c = λ enough.
    let fit = replies_fit _ (λ line. length line + 97) (reply_short _ _) (lines c.args.list.now) _
    c.in-Ok-verdicts.ensures.replies in
    let same : length c.as_slice.result.now ≡ length c.in-Ok-verdicts.replies.items = search rules in
    c.fill_buffer.ensures.enough (omega (arith, enough, fit, room_in_list c.args.list.now, same))

pub returns-in-Ok-verdicts-clause-replies : goal.returns-in-Ok-verdicts-clause-replies
returns-in-Ok-verdicts-clause-replies c = λ is.
    let replies = rw c.in-Ok.ensures.given at c.in-Ok-verdicts.ensures.replies in
    filled_by _ _ _ _ _ _ (c.fill_buffer.ensures.filled is) c.as_slice.ensures.value replies

pub returns-in-Ok-verdicts-clause-short : goal.returns-in-Ok-verdicts-clause-short
returns-in-Ok-verdicts-clause-short c = λ is.
    let replies = rw c.in-Ok.ensures.given at c.in-Ok-verdicts.ensures.replies in
    too_short_by _ _ _ _ _ _ (c.fill_buffer.ensures.short is) c.as_slice.ensures.value replies
