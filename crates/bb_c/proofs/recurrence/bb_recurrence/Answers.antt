use Rattle.std.proofs.Common.{rules, ◌≡◌, ◌+◌, ◌*◌, arith, length}
use Rattle.bb_lines.specs.Lines.{lines}
use Rattle.bb_c.proofs.Given.{filled_by, too_short_by}
use Rattle.bb_c.proofs.Lengths.{recurrence_room_in_list, replies_fit}
use Rattle.bb_c.proofs.recurrence.bb_recurrence.Goals as goal

pub returns-in-Ok-recurrences-clause-enough : goal.returns-in-Ok-recurrences-clause-enough
returns-in-Ok-recurrences-clause-enough c = λ enough.
    let fit = replies_fit _ (λ line. 7 * length line + 89)
    (λ line reply is. c.recurrence_replies_are_short.ensures _ _ line reply c.show_accepted.ensures.accepted is)
    (lines c.args.list.now) _ c.in-Ok-recurrences.ensures.replies in
    let same : length c.as_slice.result.now ≡ length c.in-Ok-recurrences.replies.items = search rules in
    let room = recurrence_room_in_list c.args.list.now in
    c.fill_buffer.ensures.enough (omega (arith, enough, fit, room, same))

pub returns-in-Ok-recurrences-clause-replies : goal.returns-in-Ok-recurrences-clause-replies
returns-in-Ok-recurrences-clause-replies c = λ is.
    let replies = rw c.in-Ok.ensures.given at c.in-Ok-recurrences.ensures.replies in
    filled_by _ _ _ _ _ _ (c.fill_buffer.ensures.filled is) c.as_slice.ensures.value replies

pub returns-in-Ok-recurrences-clause-short : goal.returns-in-Ok-recurrences-clause-short
returns-in-Ok-recurrences-clause-short c = λ is.
    let replies = rw c.in-Ok.ensures.given at c.in-Ok-recurrences.ensures.replies in
    too_short_by _ _ _ _ _ _ (c.fill_buffer.ensures.short is) c.as_slice.ensures.value replies

pub returns-in-Ok-recurrences-clause-clean : goal.returns-in-Ok-recurrences-clause-clean
returns-in-Ok-recurrences-clause-clean c = λ is.
    let clean = rw c.in-Ok.ensures.given at c.in-Ok-recurrences.ensures.clean in
    clean.0 (c.fill_buffer.ensures.clean is)

pub returns-in-Ok-recurrences-clause-not_fine : goal.returns-in-Ok-recurrences-clause-not_fine
returns-in-Ok-recurrences-clause-not_fine c = λ is fine.
    let clean = rw c.in-Ok.ensures.given at c.in-Ok-recurrences.ensures.clean in
    c.fill_buffer.ensures.not_clean is (clean.1 fine)
