use Rattle.std.proofs.Common.{◌≡◌, rules, refl, sym, inr, ◌∙◌, true}
use Rattle.bb_cert.specs.checker.Answer.{answer_text, is_fine}
use Rattle.bb_run.specs.CheckReply.{unread_text}
use Rattle.bb_run.proofs.Facts.{answered, fine_by_word, fine_reply, opened, unread_is_apart, word_if_fine}
use Rattle.bb_c.proofs.Given.{filled_by, too_short_by}
use Rattle.bb_c.proofs.checking.bb_check_line.Goals as goal

pub returns-in-None-clause-not_fine : goal.returns-in-None-clause-not_fine
returns-in-None-clause-not_fine c = λ is fine.
    let unread = inr (inr (record { no_line = c.in-None.ensures.none; is_reply = refl })) in
    unread_is_apart (fine_reply _ c.args.line.now unread_text unread fine)

pub returns-in-Ok-answer-clause-reply : goal.returns-in-Ok-answer-clause-reply
returns-in-Ok-answer-clause-reply c = λ is.
    let of = rw c.in-Some-Claim.field-0-is at c.in-Some-Claim.ensures.found in
    let answer = rw c.in-Ok.ensures.given at c.in-Ok-answer.ensures in
    filled_by _ _ _ _ _ _ (c.fill_buffer-in-Ok-answer.ensures.filled is) c.word-in-Ok-answer.ensures
    (answered _ _ _ _ _ of answer)

pub returns-in-Ok-answer-clause-short : goal.returns-in-Ok-answer-clause-short
returns-in-Ok-answer-clause-short c = λ is.
    let of = rw c.in-Some-Claim.field-0-is at c.in-Some-Claim.ensures.found in
    let answer = rw c.in-Ok.ensures.given at c.in-Ok-answer.ensures in
    too_short_by _ _ _ _ _ _ (c.fill_buffer-in-Ok-answer.ensures.short is) c.word-in-Ok-answer.ensures
    (answered _ _ _ _ _ of answer)

pub returns-in-Ok-answer-clause-clean : goal.returns-in-Ok-answer-clause-clean
returns-in-Ok-answer-clause-clean c = λ is.
    let of = rw c.in-Some-Claim.field-0-is at c.in-Some-Claim.ensures.found in
    let answer_is = rw c.in-Ok.ensures.given at c.in-Ok-answer.ensures in
    let fine : is_fine c.in-Ok-answer.answer ≡ true =
    sym c.is_fine.ensures ∙ c.fill_buffer-in-Ok-answer.ensures.clean is in
    record {
      reply = answer_text c.in-Ok-answer.answer;
      is_reply = answered _ _ _ _ _ of answer_is;
      is_fine = word_if_fine c.in-Ok-answer.answer fine;
    }

pub returns-in-Ok-answer-clause-not_fine : goal.returns-in-Ok-answer-clause-not_fine
returns-in-Ok-answer-clause-not_fine c = λ is fine.
    let of = rw c.in-Some-Claim.field-0-is at c.in-Some-Claim.ensures.found in
    let answer = rw c.in-Ok.ensures.given at c.in-Ok-answer.ensures in
    let word = fine_reply _ _ _ (answered _ _ _ _ _ of answer) fine in
    let fine_too = c.is_fine.ensures ∙ fine_by_word c.in-Ok-answer.answer word in
    c.fill_buffer-in-Ok-answer.ensures.not_clean is fine_too

pub returns-in-Some-Refusal-clause-reply : goal.returns-in-Some-Refusal-clause-reply
returns-in-Some-Refusal-clause-reply c = λ is.
    let of = rw c.in-Some-Refusal.field-0-is at c.in-Some-Refusal.ensures.found in
    filled_by _ _ _ _ _ _ (c.fill_buffer-in-Some-Refusal.ensures.filled is) (search rules)
    (opened _ _ _ of)

pub returns-in-Some-Refusal-clause-short : goal.returns-in-Some-Refusal-clause-short
returns-in-Some-Refusal-clause-short c = λ is.
    let of = rw c.in-Some-Refusal.field-0-is at c.in-Some-Refusal.ensures.found in
    too_short_by _ _ _ _ _ _ (c.fill_buffer-in-Some-Refusal.ensures.short is) (search rules)
    (opened _ _ _ of)

pub returns-in-Some-Refusal-clause-not_fine : goal.returns-in-Some-Refusal-clause-not_fine
returns-in-Some-Refusal-clause-not_fine c = λ is fine. c.fill_buffer-in-Some-Refusal.ensures.not_clean is refl
