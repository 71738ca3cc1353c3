-- How long the parts of a line are.
use Rattle.std.proofs.Common.{ℕ, ◌+◌, ◌*◌, ◌<◌, ◌≤◌, ◌^◌, Option, Some, None, List, ◌∷◌, ◌++◌, length}
use Rattle.std.proofs.Common.{codes, decimal, arith, ap, length-append}
use Rattle.std.proofs.lemmas.Fmt.{length-decimal-le}
use Rattle.std.proofs.Math.Nat.{mul-le-mul}
use Rattle.bb_machine.specs.declared.machine.TheConstants.{MAX_STATES, MAX_SYMBOLS}
use Rattle.bb_machine.specs.Machine.{text}
use Rattle.bb_machine.proofs.Facts.{text_short, machine_of_smaller}
use Rattle.bb_cert.specs.declared.verdict.line.TheConstants.{LONGEST}
use Rattle.bb_cert.specs.declared.verdict.reader.Line.{Line}
use Rattle.bb_cert.specs.declared.verdict.reader.Line.TheVariants.{Claim, Refusal}
use Rattle.bb_cert.specs.declared.verdict.Extent.{Extent}
use Rattle.bb_cert.specs.declared.verdict.Side.TheVariants.{L, R}
use Rattle.bb_cert.specs.declared.verdict.Why.TheVariants.{Steps, Cells}
use Rattle.bb_cert.specs.declared.verdict.Verdict.{Verdict}
use Rattle.bb_cert.specs.declared.verdict.Verdict.TheVariants.{Halt, Cycler, Translated, Backward, Undecided}
use Rattle.bb_cert.specs.verdict.Verdict.{HasExtentNumbers, HasNumbers}
use Rattle.bb_cert.specs.claims.Laws.{IsLineWithin}
use Rattle.bb_cert.specs.verdict.Line.{pair_text, records_text, second_text, verdict_text, IsLineOf}

number : (n : ℕ) → n < 2 ^ 64 → length (decimal n) ≤ 20
number n h = length-decimal-le 20 n (omega arith) (omega (arith, h)) h

-- two numbers with a space between them
pair : (a b : ℕ) → a < 2 ^ 64 → b < 2 ^ 64 → length (pair_text a b) ≤ 41
pair a b first second =
    let m = number a first in
    let n = number b second in
    let whole = length-append (decimal a) (32 ∷ decimal b) in
    omega arith

-- a second step, with its extent or without
length-second : (b : ℕ) (extent : Option Extent) → b < 2 ^ 64 → HasExtentNumbers extent
    → length (second_text b extent) ≤ 62
length-second b None second fits = let n = number b second in omega arith
length-second b (Some extent) second fits =
    let n = number b second in
    let after = pair extent.shift extent.length fits.0 fits.1 in
    let whole = length-append (decimal b) (32 ∷ pair_text extent.shift extent.length) in
    omega arith

-- a word of at most 14 bytes, and two numbers
numbers : (word : List ℕ) (a b : ℕ) → length word ≤ 14 → a < 2 ^ 64 → b < 2 ^ 64
    → length (word ++ pair_text a b) ≤ 97
numbers word a b short first second =
    let both = pair a b first second in
    let whole = length-append word (pair_text a b) in
    omega arith

-- such a word, and the steps of two records
records : (word : List ℕ) (a b : ℕ) (extent : Option Extent) → length word ≤ 14 → a < 2 ^ 64 → b < 2 ^ 64
    → HasExtentNumbers extent → length (word ++ records_text a b extent) ≤ 97
records word a b extent short first second fits =
    let m = number a first in
    let n = length-second b extent second fits in
    let whole = length-append word (records_text a b extent) in
    let both = length-append (decimal a) (32 ∷ second_text b extent) in
    omega arith

-- what stands after the machine
pub length-verdict_text : (verdict : Verdict) → HasNumbers verdict → length (verdict_text verdict) ≤ 97
length-verdict_text (Halt steps score) fits = numbers (codes " halt ") steps score (omega arith) fits.0 fits.1
length-verdict_text (Cycler first second) fits = numbers (codes " cycler ") first second (omega arith) fits.0
    fits.1
length-verdict_text (Translated L first second extent) fits =
    records (codes " translated L ") first second extent (omega arith) fits.0 fits.1 fits.2
length-verdict_text (Translated R first second extent) fits =
    records (codes " translated R ") first second extent (omega arith) fits.0 fits.1 fits.2
length-verdict_text (Backward levels nodes) fits = numbers (codes " backward ") levels nodes (omega arith)
    fits.0 fits.1
length-verdict_text (Undecided Steps) fits = omega arith
length-verdict_text (Undecided Cells) fits = omega arith

-- no verdict line is longer
pub length-line : (said : Line) (bytes : List ℕ) → IsLineOf said bytes → length bytes ≤ LONGEST
length-line (Claim table verdict) bytes is =
    let machine = text_short MAX_STATES MAX_SYMBOLS table is.0 in
    let words = length-verdict_text verdict is.1 in
    let whole = length-append (text table) (verdict_text verdict) in
    let same = ap length is.2 in
    omega arith
length-line (Refusal column) bytes is =
    let digits = number column (omega (arith, is.1)) in
    let whole = length-append (codes "refused ") (decimal column) in
    let same = ap length is.2 in
    omega arith

-- a line of smaller machines
pub line_of_smaller : (states symbols : ℕ) (said : Line) (bytes : List ℕ) → states ≤ MAX_STATES
    → symbols ≤ MAX_SYMBOLS → IsLineWithin states symbols said bytes → IsLineOf said bytes
line_of_smaller states symbols (Claim table verdict) bytes few_states few_symbols is =
    (machine_of_smaller states symbols table few_states few_symbols is.0, is.1, is.2)
line_of_smaller states symbols (Refusal column) bytes few_states few_symbols is =
    let fewer : states * (3 * symbols + 1) ≤ MAX_STATES * (3 * MAX_SYMBOLS + 1) =
    mul-le-mul {n₁ = states} {m₁ = 3 * symbols + 1} {n₂ = MAX_STATES} {m₂ = 3 * MAX_SYMBOLS + 1}
    few_states (omega arith) in
    (is.0, omega (arith, is.1), is.2)
