-- How long a reply to a line is.
use Rattle.std.proofs.Common.{ℕ, ◌+◌, ◌≤◌, List, length, take, codes, decimal, arith, ap, inl, inr}
use Rattle.std.proofs.Common.{length-append}
use Rattle.std.proofs.lemmas.Fmt.{length-decimal-le}
use Rattle.std.proofs.lemmas.List.{length-take-le}
use Rattle.bb_machine.specs.declared.machine.TheConstants.{LINE, MAX_STATES, MAX_SYMBOLS}
use Rattle.bb_machine.specs.Column.{IsColumn}
use Rattle.bb_machine.specs.Limits.{Bounds}
use Rattle.bb_machine.specs.Machine.{text}
use Rattle.bb_machine.proofs.Facts.{text_short}
use Rattle.bb_cert.specs.declared.checker.answer.Answer.{Answer}
use Rattle.bb_cert.specs.declared.checker.answer.Answer.TheVariants as answer
use Rattle.bb_cert.specs.checker.Answer.{answer_text}
use Rattle.bb_cert.specs.verdict.Line.{refusal_text, verdict_text}
use Rattle.bb_cert.proofs.Facts.{length-verdict_text}
use Rattle.bb_machine.specs.declared.plan.Plan.{Plan}
use Rattle.bb_run.specs.CheckReply.{IsCheckReply}
use Rattle.bb_run.specs.Reply.{IsReply}

-- a prefix that begins some machine's text is no longer than that
pub column_small : (line : List ℕ) (column : ℕ) → IsColumn line column → column ≤ LINE + 1
column_small line column is =
    let begun = is.2.holds in
    let parts = length-append (take is.0 line) begun.2.0 in
    let taken = length-take-le is.0 line is.2.within in
    omega (arith, is.1, text_short MAX_STATES MAX_SYMBOLS begun.0 begun.1, ap length begun.2.1)

-- `refused`, and a column of three digits
pub refusal_short : (line : List ℕ) (column : ℕ) → IsColumn line column → length (refusal_text column) ≤ 11
refusal_short line column is =
    let small = column_small line column is in
    let whole = length-append (codes "refused ") (decimal column) in
    omega (arith, length-decimal-le 3 column (omega arith) (omega (arith, small)) (omega (arith, small)))

-- a verdict has at most 97 bytes behind its machine
pub reply_short : (bounds : Bounds) (plan : Plan) (line reply : List ℕ) → IsReply bounds plan line reply
    → length reply ≤ length line + 97
reply_short bounds plan line reply (inl r) =
    let whole = length-append (text r.table) (verdict_text r.verdict) in
    omega (arith, length-verdict_text r.verdict r.is_reply.1, ap length r.is_reply.2, ap length r.of.is_text)
reply_short bounds plan line reply (inr r) =
    omega (arith, refusal_short line r.column r.is_column, ap length r.is_reply)

word_short : (given : Answer) → length (answer_text given) ≤ 6
word_short answer.Ok = omega arith
word_short given = omega arith

-- `unread` is the longest word
pub check_reply_short : (bounds : Bounds) (line reply : List ℕ) → IsCheckReply bounds line reply
    → length reply ≤ 6
check_reply_short bounds line reply (inl r) = omega (arith, word_short r.given, ap length r.is_reply)
check_reply_short bounds line reply (inr (inl r)) = omega (arith, ap length r.is_reply)
check_reply_short bounds line reply (inr (inr r)) = omega (arith, ap length r.is_reply)
