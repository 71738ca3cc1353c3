-- What `check` replies to a line: this project's own.
use Rattle.std.specs.Prelude.{◌≡◌, ℕ, ◌⊎◌, List, codes}
use Rattle.bb_machine.specs.Limits.{Bounds}
use Rattle.bb_machine.specs.Machine.{Table}
use Rattle.bb_cert.specs.declared.checker.answer.Answer.{Answer}
use Rattle.bb_cert.specs.declared.checker.answer.Answer.TheVariants.{Open}
use Rattle.bb_cert.specs.declared.verdict.reader.Line.{Line}
use Rattle.bb_cert.specs.declared.verdict.reader.Line.TheVariants.{Claim, Refusal}
use Rattle.bb_cert.specs.declared.verdict.Verdict.{Verdict}
use Rattle.bb_cert.specs.checker.Answer.{IsAnswer, answer_text}
use Rattle.bb_cert.specs.verdict.Line.{IsLineOf}

-- the word for a line that is no verdict line
abbrev pub unread_text : List ℕ
unread_text = codes "unread"

-- the line is that of a machine and a verdict, and the reply is the word of the answer to them
pub record IsAnswerReply (bounds : Bounds) (line reply : List ℕ) : Type 0 where
  pub table : Table
  pub verdict : Verdict
  pub of : IsLineOf (Claim table verdict) line
  pub given : Answer
  pub is_answer : IsAnswer table bounds verdict given
  pub is_reply : reply ≡ answer_text given

-- the line is that of a refusal, which claims nothing
pub record IsOpenReply (line reply : List ℕ) : Type 0 where
  pub column : ℕ
  pub of : IsLineOf (Refusal column) line
  pub is_reply : reply ≡ answer_text Open

-- the line is no verdict line
pub record IsUnread (line reply : List ℕ) : Type 0 where
  pub no_line : (said : Line) → IsLineOf said line → ⊥
  pub is_reply : reply ≡ unread_text

abbrev pub IsCheckReply : Bounds → List ℕ → List ℕ → Type 0
IsCheckReply bounds line reply =
    IsAnswerReply bounds line reply ⊎ (IsOpenReply line reply ⊎ IsUnread line reply)
