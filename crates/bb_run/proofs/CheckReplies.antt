-- Why no line has two answers.
use Rattle.std.proofs.Common.{◌≡◌, ℕ, List, inl, inr, refl, sym, ap, ◌∙◌}
use Rattle.bb_machine.specs.Limits.{Bounds}
use Rattle.bb_machine.specs.Machine.{Table}
use Rattle.bb_cert.specs.declared.checker.answer.Answer.{Answer}
use Rattle.bb_cert.specs.declared.checker.answer.Answer.TheVariants.{Open}
use Rattle.bb_cert.specs.declared.verdict.reader.Line.TheVariants.{Claim, Refusal}
use Rattle.bb_cert.specs.declared.verdict.Verdict.{Verdict}
use Rattle.bb_cert.specs.checker.Answer.{IsAnswer, answer_text}
use Rattle.bb_cert.specs.verdict.Line.{IsLineOf}
use Rattle.bb_cert.proofs.Facts.{answer_is_unique, line_unique}
use Rattle.bb_run.specs.CheckKeptBytes.{long_line}
use Rattle.bb_run.specs.CheckReply.{IsCheckReply}
use Rattle.bb_run.specs.Laws.{CheckReplyIsUnique, LongLinesAreUnread}

module _ (line : List ℕ) (s t : Table) (v w : Verdict) (first : IsLineOf (Claim s v) line)
    (second : IsLineOf (Claim t w) line) where
  -- one line claims one thing
  pub one_table : s ≡ t
  one_table = cc (line_unique (Claim s v) (Claim t w) line first second)

  pub one_verdict : v ≡ w
  one_verdict = cc (line_unique (Claim s v) (Claim t w) line first second)

  -- so it has no two answers
  pub one_answer : (bounds : Bounds) (a b : Answer) → IsAnswer s bounds v a → IsAnswer t bounds w b → a ≡ b
  one_answer bounds a b is_a is_b =
      answer_is_unique t bounds w a b (rw (← one_table, ← one_verdict) is_a) is_b

-- a claim's line gets the word of its answer, a refusal's `open`
pub answered : (bounds : Bounds) (line : List ℕ) (table : Table) (verdict : Verdict) (given : Answer)
    → IsLineOf (Claim table verdict) line → IsAnswer table bounds verdict given
    → IsCheckReply bounds line (answer_text given)
answered bounds line table verdict given of is_answer = inl (record {
  table = table;
  verdict = verdict;
  of = of;
  given = given;
  is_answer = is_answer;
  is_reply = refl;
})

pub opened : (bounds : Bounds) (line : List ℕ) (column : ℕ) → IsLineOf (Refusal column) line
    → IsCheckReply bounds line (answer_text Open)
opened bounds line column of = inr (inl (record { column = column; of = of; is_reply = refl }))

-- no line is both a claim and a refusal
pub never_both : (line : List ℕ) (t : Table) (v : Verdict) (column : ℕ)
    → IsLineOf (Claim t v) line → IsLineOf (Refusal column) line → ⊥
never_both line t v column claim refusal =
    cc (line_unique (Claim t v) (Refusal column) line claim refusal)

pub check_reply_is_unique : CheckReplyIsUnique
check_reply_is_unique bounds line a b (inl p) (inl q) =
    let same = one_answer line p.table q.table p.verdict q.verdict p.of q.of bounds p.given q.given
    p.is_answer q.is_answer in
    p.is_reply ∙ ap answer_text same ∙ sym q.is_reply
check_reply_is_unique bounds line a b (inl p) (inr (inl q)) =
    absurd (never_both line p.table p.verdict q.column p.of q.of)
check_reply_is_unique bounds line a b (inl p) (inr (inr q)) =
    absurd (q.no_line (Claim p.table p.verdict) p.of)
check_reply_is_unique bounds line a b (inr (inl p)) (inl q) =
    absurd (never_both line q.table q.verdict p.column q.of p.of)
check_reply_is_unique bounds line a b (inr (inl p)) (inr (inl q)) = p.is_reply ∙ sym q.is_reply
check_reply_is_unique bounds line a b (inr (inl p)) (inr (inr q)) =
    absurd (q.no_line (Refusal p.column) p.of)
check_reply_is_unique bounds line a b (inr (inr p)) (inl q) =
    absurd (p.no_line (Claim q.table q.verdict) q.of)
check_reply_is_unique bounds line a b (inr (inr p)) (inr (inl q)) =
    absurd (p.no_line (Refusal q.column) q.of)
check_reply_is_unique bounds line a b (inr (inr p)) (inr (inr q)) = p.is_reply ∙ sym q.is_reply

pub long_lines_are_unread : LongLinesAreUnread
long_lines_are_unread bounds line reply long (inl p) =
    absurd (long_line line long (Claim p.table p.verdict) p.of)
long_lines_are_unread bounds line reply long (inr (inl p)) =
    absurd (long_line line long (Refusal p.column) p.of)
long_lines_are_unread bounds line reply long (inr (inr p)) = p.is_reply
