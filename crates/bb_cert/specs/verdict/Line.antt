-- The line of a machine and a verdict, and that of a refused line: this project's own format.
use Rattle.std.specs.Prelude.{◌≡◌, ℕ, ◌+◌, ◌<◌, ◌≤◌, Option, Some, None, List, ◌∷◌, ◌++◌, codes, decimal}
use Rattle.bb_machine.specs.declared.machine.TheConstants.{LINE}
use Rattle.bb_machine.specs.declared.entry.Entry.{Entry}
use Rattle.bb_machine.specs.Machine.{IsMachine, text}
use Rattle.bb_cert.specs.declared.verdict.Extent.{Extent}
use Rattle.bb_cert.specs.declared.verdict.Side.{Side}
use Rattle.bb_cert.specs.declared.verdict.Side.TheVariants.{L, R}
use Rattle.bb_cert.specs.declared.verdict.Why.{Why}
use Rattle.bb_cert.specs.declared.verdict.Why.TheVariants.{Steps, Cells}
use Rattle.bb_cert.specs.declared.verdict.Verdict.{Verdict}
use Rattle.bb_cert.specs.declared.verdict.Verdict.TheVariants.{Halt, Cycler, Translated, Backward, Undecided}
use Rattle.bb_cert.specs.declared.verdict.reader.Line.{Line}
use Rattle.bb_cert.specs.declared.verdict.reader.Line.TheVariants.{Claim, Refusal}
use Rattle.bb_cert.specs.declared.verdict.reader.LineContent.{LineContent}
use Rattle.bb_cert.specs.declared.verdict.reader.LineContent.TheVariants as said
use Rattle.bb_cert.specs.verdict.Verdict.{HasNumbers}

-- two numbers, with a space between them
abbrev pub pair_text : ℕ → ℕ → List ℕ
pair_text a b = decimal a ++ (32 ∷ decimal b)

-- the second step of a pair, and the extent after it where there is one
abbrev pub second_text : ℕ → Option Extent → List ℕ
second_text second None = decimal second
second_text second (Some extent) = decimal second ++ (32 ∷ pair_text extent.shift extent.length)

-- the steps of two records, and their extent where there is one
abbrev pub records_text : ℕ → ℕ → Option Extent → List ℕ
records_text first second extent = decimal first ++ (32 ∷ second_text second extent)

-- the word that names a side, with the space before it
abbrev pub side_text : Side → List ℕ
side_text L = codes " translated L "
side_text R = codes " translated R "

abbrev pub why_text : Why → List ℕ
why_text Steps = codes " undecided steps"
why_text Cells = codes " undecided cells"

-- a verdict as it stands after its machine
abbrev pub verdict_text : Verdict → List ℕ
verdict_text (Halt steps score) = codes " halt " ++ pair_text steps score
verdict_text (Cycler first second) = codes " cycler " ++ pair_text first second
verdict_text (Translated side first second extent) = side_text side ++ records_text first second extent
verdict_text (Backward levels nodes) = codes " backward " ++ pair_text levels nodes
verdict_text (Undecided why) = why_text why

-- the line of a machine and a verdict, without a newline
abbrev pub line_text : List (List Entry) → Verdict → List ℕ
line_text table verdict = text table ++ verdict_text verdict

-- the line that refuses a line at a column, without a newline
abbrev pub refusal_text : ℕ → List ℕ
refusal_text column = codes "refused " ++ decimal column

-- the bytes are the line of this machine and this verdict, or of this column
abbrev pub IsLineOf : Line → List ℕ → Type 0
IsLineOf (Claim table verdict) bytes =
    IsMachine table × HasNumbers verdict × (line_text table verdict ≡ bytes)
IsLineOf (Refusal column) bytes = (0 < column) × (column ≤ LINE + 1) × (refusal_text column ≡ bytes)

-- the content of a line, put together from its machine and the rest
abbrev pub stated_line : List (List Entry) → LineContent → Line
stated_line table (said.Claim verdict) = Claim table verdict
stated_line table (said.Refusal column) = Refusal column
