use Rattle.std.proofs.Common.{rules, ◌≡◌, arith, ap, length}
use Rattle.std.proofs.lemmas.Bool.{false≢true}
use Rattle.bb_cert.specs.verdict.Line.{refusal_text}
use Rattle.bb_run.proofs.Facts.{refusal_short, reply_short}
use Rattle.bb_c.proofs.Given.{filled_by, too_short_by}
use Rattle.bb_c.proofs.deciding.bb_decide_line.Goals as goal

pub returns-in-Err-clause-enough : goal.returns-in-Err-clause-enough
returns-in-Err-clause-enough c = λ enough.
    let short = refusal_short c.args.line.now c.in-Err.refused.column c.in-Err.ensures.column in
    let same : c.as_slice.result.now ≡ refusal_text c.in-Err.refused.column = search rules in
    c.fill_buffer.ensures.enough (omega (arith, enough, short, ap length same))

pub returns-in-Ok-verdict_line-clause-enough : goal.returns-in-Ok-verdict_line-clause-enough
returns-in-Ok-verdict_line-clause-enough c = λ enough.
    let short = reply_short _ _ _ _ c.in-Ok-verdict_line.ensures.reply in
    let of = ap length c.in-Ok-read.ensures.found.1 in
    let same : length c.as_slice-in-Ok-verdict_line.result.now ≡ length c.verdict_line.new.reply.items =
    search rules in
    c.fill_buffer-in-Ok-verdict_line.ensures.enough (omega (arith, enough, short, of, same))

pub returns-in-Ok-verdict_line-clause-reply : goal.returns-in-Ok-verdict_line-clause-reply
returns-in-Ok-verdict_line-clause-reply c = λ is.
    let reply = rw (c.in-Ok.ensures.given, c.in-Ok-read.ensures.found.1) at
    c.in-Ok-verdict_line.ensures.reply in
    filled_by _ _ _ _ _ _ (c.fill_buffer-in-Ok-verdict_line.ensures.filled is)
    c.as_slice-in-Ok-verdict_line.ensures.value reply

pub returns-in-Ok-verdict_line-clause-short : goal.returns-in-Ok-verdict_line-clause-short
returns-in-Ok-verdict_line-clause-short c = λ is.
    let reply = rw (c.in-Ok.ensures.given, c.in-Ok-read.ensures.found.1) at
    c.in-Ok-verdict_line.ensures.reply in
    too_short_by _ _ _ _ _ _ (c.fill_buffer-in-Ok-verdict_line.ensures.short is)
    c.as_slice-in-Ok-verdict_line.ensures.value reply

pub returns-in-Err-clause-clean : goal.returns-in-Err-clause-clean
returns-in-Err-clause-clean c = λ is. absurd (false≢true (c.fill_buffer.ensures.clean is))
