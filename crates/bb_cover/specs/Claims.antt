-- Which verdicts may stand in a list, within bounds.
use Rattle.std.specs.Prelude.{◌≡◌, ℕ, true, false, IsTrue, List, [], ◌∷◌, Option, Some, None}
use Rattle.bb_machine.specs.Limits.{Bounds}
use Rattle.bb_machine.specs.Machine.{Table}
use Rattle.bb_cert.specs.declared.checker.answer.Answer.{Answer}
use Rattle.bb_cert.specs.declared.verdict.Verdict.{Verdict}
use Rattle.bb_cert.specs.checker.Answer.{IsAnswer, is_fine}
use Rattle.laws_of_verdicts.specs.UndefinedEntry.{HasOtherUndefined}
use Rattle.bb_cover.specs.declared.claim.Judged.{Judged}
use Rattle.bb_cover.specs.declared.claim.Judged.TheVariants.{Fine, Refused}
use Rattle.bb_cover.specs.declared.undefined.UndefinedEntry.{UndefinedEntry}
use Rattle.bb_cover.specs.declared.content.Content.{Content}
use Rattle.bb_cover.specs.declared.content.Content.TheVariants.{Claim, Shard}
use Rattle.bb_cover.specs.declared.task.Task.{Task}
use Rattle.bb_cover.specs.Content.{IsItemLine, Item}
use Rattle.bb_cover.specs.Counts.{is_halt}
use Rattle.bb_cover.specs.UndefinedEntries.{IsToFill}

-- the verdict is a halt
abbrev pub IsHalt : Verdict → Type 0
IsHalt verdict = IsTrue (is_halt verdict)

-- of a `---`, if there is one, the same, where it is one of several
abbrev pub IsOneOf : Table → Option UndefinedEntry → Option UndefinedEntry → Type 0
IsOneOf table None found = found ≡ None
IsOneOf table (Some undefined) None = HasOtherUndefined table undefined.state undefined.symbol → ⊥
IsOneOf table (Some undefined) (Some other) =
    (other ≡ undefined) × HasOtherUndefined table undefined.state undefined.symbol

-- the checker's answer to the verdict is `ok` or `open`
pub record IsFineClaim (bounds : Bounds) (table : Table) (verdict : Verdict) : Type 0 where
  pub given : Answer
  pub is_answer : IsAnswer table bounds verdict given
  pub fine : is_fine given ≡ true

-- the checker's answer is this one, and neither `ok` nor `open`
pub record IsRefusedClaim (bounds : Bounds) (table : Table) (verdict : Verdict) (given : Answer)
    : Type 0 where
  pub is_answer : IsAnswer table bounds verdict given
  pub not_fine : is_fine given ≡ false

-- the verdict is judged so
abbrev pub IsJudged : Table → Bounds → Verdict → Judged → Type 0
IsJudged table bounds verdict (Fine undefined) = IsFineClaim bounds table verdict
    × IsToFill (record { table = table; verdict = verdict }) undefined
IsJudged table bounds verdict (Refused given) = IsRefusedClaim bounds table verdict given

-- the content of a line is judged so; the counts of a shard lead to no machine
abbrev pub IsJudgedContent : Table → Bounds → Content → Judged → Type 0
IsJudgedContent table bounds (Claim verdict) judged = IsJudged table bounds verdict judged
IsJudgedContent table bounds (Shard shard) judged = judged ≡ Fine None

-- a verdict may stand in a list; the counts of a shard are taken as they are
abbrev pub IsFineContent : Bounds → Table → Content → Type 0
IsFineContent bounds table (Claim verdict) = IsFineClaim bounds table verdict
IsFineContent bounds table (Shard shard) = Unit {0}

-- the bytes are the line of this item, which may stand in the list
pub record IsTrueLine (task : Task) (bytes : List ℕ) (item : Item) : Type 0 where
  pub is_line : IsItemLine task.form item bytes
  pub is_fine : IsFineContent task.limits item.table item.content

-- these bytes, in their order, are the lines of these items
abbrev pub AreTrueLines : Task → List (List ℕ) → List Item → Type 0
AreTrueLines task [] [] = Unit {0}
AreTrueLines task [] (item ∷ items) = ⊥
AreTrueLines task (bytes ∷ more) [] = ⊥
AreTrueLines task (bytes ∷ more) (item ∷ items) = IsTrueLine task bytes item × AreTrueLines task more items
