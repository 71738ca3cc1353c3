-- Definitions for the functions that validate replies.
use Rattle.std.specs.Prelude.{◌≡◌, ℕ, List}
use Rattle.bb_machine.specs.Column.{IsColumn}
use Rattle.bb_machine.specs.Machine.{IsMachineLine}
use Rattle.bb_cert.specs.declared.verdict.Verdict.{Verdict}
use Rattle.bb_cert.specs.verdict.Line.{verdict_text}
use Rattle.bb_cert.specs.verdict.Verdict.{HasNumbers}
use Rattle.bb_run.specs.declared.reply_validation.ReplyKind.{ReplyKind}
use Rattle.bb_run.specs.Validation.{kind_of}

-- the line is no machine's text, and this is its column
pub record IsRefusedAt (line : List ℕ) (column : ℕ) : Type 0 where
  pub no_machine : IsMachineLine line → ⊥
  pub is_column : IsColumn line column

-- the words are those of a verdict of this kind, as it stands after its machine
pub record IsWordsOf (of_kind : ReplyKind) (words : List ℕ) : Type 0 where
  pub verdict : Verdict
  pub numbers : HasNumbers verdict
  pub is_text : verdict_text verdict ≡ words
  pub is_kind : of_kind ≡ kind_of verdict
