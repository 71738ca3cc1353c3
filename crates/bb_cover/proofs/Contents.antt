-- What a judgement says of the content of a line.
use Rattle.std.proofs.Common.{◌≡◌, List, ℕ, Option, None, subst}
use Rattle.bb_machine.specs.Limits.{Bounds}
use Rattle.bb_machine.specs.Machine.{Table}
use Rattle.bb_cert.specs.declared.checker.answer.Answer.{Answer}
use Rattle.bb_cert.specs.declared.verdict.Why.TheVariants.{Steps}
use Rattle.bb_cert.specs.declared.verdict.Verdict.{Verdict}
use Rattle.bb_cert.specs.declared.verdict.Verdict.TheVariants.{Undecided}
use Rattle.bb_cert.specs.declared.verdict.reader.Line.TheVariants as said
use Rattle.bb_cert.specs.verdict.Line.{IsLineOf}
use Rattle.bb_cover.specs.declared.claim.Judged.TheVariants.{Fine, Refused}
use Rattle.bb_cover.specs.declared.content.Content.{Content}
use Rattle.bb_cover.specs.declared.content.Content.TheVariants.{Claim, Shard}
use Rattle.bb_cover.specs.declared.task.Form.{Form}
use Rattle.bb_cover.specs.declared.undefined.UndefinedEntry.{UndefinedEntry}
use Rattle.bb_cover.specs.Claims.{IsFineContent, IsJudgedContent, IsRefusedClaim}
use Rattle.bb_cover.specs.Content.{IsItemLine, line_of}
use Rattle.bb_cover.specs.UndefinedEntries.{IsToFill}

pub fine_content : (bounds : Bounds) (table : Table) (content : Content) (undefined : Option UndefinedEntry)
    → IsJudgedContent table bounds content (Fine undefined)
    → IsFineContent bounds table content
    × IsToFill (line_of (record { table = table; content = content })) undefined
fine_content bounds table (Claim verdict) undefined judged = judged
fine_content bounds table (Shard shard) undefined judged =
    let none : None ≡ undefined = cc in (
      tt,
      subst (IsToFill (record { table = table; verdict = Undecided Steps })) none
          (λ state symbol halts. let says = halts.says in cc),
    )

pub refused_content : (form : Form) (bounds : Bounds) (table : Table) (content : Content) (bytes : List ℕ)
    (given : Answer) → IsItemLine form (record { table = table; content = content }) bytes
    → IsJudgedContent table bounds content (Refused given)
    → (verdict : Verdict) × IsLineOf (said.Claim table verdict) bytes
    × IsRefusedClaim bounds table verdict given
refused_content form bounds table (Claim verdict) bytes given of judged = (verdict, of, judged)
refused_content form bounds table (Shard shard) bytes given of judged = absurd cc
