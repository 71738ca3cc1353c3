-- What `decide` replies to a line: this project's own.
use Rattle.std.specs.Prelude.{◌≡◌, ℕ, ◌⊎◌, List}
use Rattle.bb_machine.specs.Column.{IsColumn}
use Rattle.bb_machine.specs.Limits.{Bounds}
use Rattle.bb_machine.specs.Machine.{Table, IsMachineLine, IsTextOf}
use Rattle.bb_cert.specs.declared.verdict.Verdict.{Verdict}
use Rattle.bb_cert.specs.declared.verdict.reader.Line.TheVariants.{Claim}
use Rattle.bb_cert.specs.verdict.Line.{IsLineOf, refusal_text}
use Rattle.bb_machine.specs.declared.plan.Plan.{Plan}
use Rattle.bb_decide.specs.Verdict.{IsVerdict}

-- the line is a machine's text, and the reply is the line of the machine and its verdict; so reading it gives
-- them back
pub record IsVerdictReply (bounds : Bounds) (plan : Plan) (line reply : List ℕ) : Type 0 where
  pub table : Table
  pub of : IsTextOf table line
  pub verdict : Verdict
  pub is_verdict : IsVerdict table bounds plan verdict
  pub is_reply : IsLineOf (Claim table verdict) reply

-- the line is no machine's text, and the reply names its column
pub record IsRefusal (line reply : List ℕ) : Type 0 where
  pub no_machine : IsMachineLine line → ⊥
  pub column : ℕ
  pub is_column : IsColumn line column
  pub is_reply : reply ≡ refusal_text column

abbrev pub IsReply : Bounds → Plan → List ℕ → List ℕ → Type 0
IsReply bounds plan line reply = IsVerdictReply bounds plan line reply ⊎ IsRefusal line reply
