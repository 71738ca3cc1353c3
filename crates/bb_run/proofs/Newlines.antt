-- How bytes are cut at newlines, and which texts have none.
use Rattle.std.proofs.Common.{◌≡◌, ℕ, ◌+◌, ◌-◌, ◌<◌, ◌^◌, List}
use Rattle.std.proofs.Common.{[], ◌∷◌, ◌++◌, length, take, drop, codes, decimal, Option, Some, None}
use Rattle.std.proofs.Common.{refl}
use Rattle.std.proofs.Common.{sym, ◌∙◌, ap, subst, rules, arith, append_assoc}
use Rattle.std.proofs.lemmas.List.{length-drop, take_all}
use Rattle.std.proofs.lemmas.List.Elements.{All-append, All-cons, All-from_get_or, All-head, All-nil}
use Rattle.std.proofs.lemmas.List.Elements.{All-tail}
use Rattle.std.proofs.lemmas.Fmt.{digits_decimal}
use Rattle.std.proofs.lemmas.Str.Parse.{IsNumeralModel, digit_at, numerals_by_value, tells_digits}
use Rattle.std.specs.Str.Parse.{AllDigits, digits_value}
use Rattle.bb_cert.specs.declared.verdict.Extent.{Extent}
use Rattle.bb_cert.specs.declared.verdict.Side.TheVariants.{L, R}
use Rattle.bb_cert.specs.declared.verdict.Why.TheVariants.{Steps, Cells}
use Rattle.bb_cert.specs.declared.verdict.Verdict.{Verdict}
use Rattle.bb_cert.specs.declared.verdict.Verdict.TheVariants.{Halt, Cycler, Translated, Backward, Undecided}
use Rattle.bb_cert.specs.verdict.Verdict.{HasExtentNumbers, HasNumbers}
use Rattle.bb_cert.specs.verdict.Line.{pair_text, records_text, refusal_text, second_text, verdict_text}
use Rattle.bb_lines.specs.Lines.{HasNoNewline, lines}
use Rattle.bb_lines.proofs.Facts.{IsOther, lines-from_pieces, pieces-line, pieces-none, pieces_end}

-- ---- cuts

-- bytes without a newline are no bytes with one
pub none_within : (prefix rest bytes : List ℕ) → HasNoNewline bytes → bytes ≡ (prefix ++ 10 ∷ []) ++ rest → ⊥
none_within [] rest bytes none is =
    All-head IsOther 10 rest (subst HasNoNewline is none) refl
none_within (b ∷ prefix) rest bytes none is =
    none_within prefix rest ((prefix ++ 10 ∷ []) ++ rest)
    (All-tail IsOther b ((prefix ++ 10 ∷ []) ++ rest) (subst HasNoNewline is none)) refl

-- what stands before a first newline, and after it
pub same_cut : (a b x y : List ℕ) → HasNoNewline a → HasNoNewline b
    → (a ++ 10 ∷ []) ++ x ≡ (b ++ 10 ∷ []) ++ y → (a ≡ b) × (x ≡ y)
same_cut [] [] x y _ _ is = (refl, cc)
same_cut [] (d ∷ b) x y _ q is = let first : d ≡ 10 = cc in absurd (All-head IsOther d b q first)
same_cut (c ∷ a) [] x y p _ is = let first : c ≡ 10 = cc in absurd (All-head IsOther c a p first)
same_cut (c ∷ a) (d ∷ b) x y p q is =
    let rest = same_cut a b x y (All-tail IsOther c a p) (All-tail IsOther d b q) cc in
    let prefixes : a ≡ b = rest.0 in
    (cc, rest.1)

-- the slice after a place, up to the end of the bytes, is all of the rest
pub slice_after : (bytes : List ℕ) (at : ℕ)
    → take (length bytes - (at + 1)) (drop (at + 1) bytes) ≡ drop (at + 1) bytes
slice_after bytes at =
    take_all (length bytes - (at + 1)) (drop (at + 1) bytes) (omega (arith, length-drop (at + 1) bytes))

-- ---- lines

-- no bytes have no line
pub lines_of_none : lines [] ≡ []
lines_of_none = lines-from_pieces [] [] [] (pieces-none [] (All-nil IsOther))

-- bytes without a newline are one line, unless there are none
pub lines_of_last : (bytes : List ℕ) → HasNoNewline bytes → 0 < length bytes → lines bytes ≡ bytes ∷ lines []
lines_of_last [] none some = absurd (omega arith)
lines_of_last (byte ∷ bytes) none some =
    lines-from_pieces (byte ∷ bytes) [] (byte ∷ bytes) (pieces-none (byte ∷ bytes) none)
    ∙ ap (λ others. (byte ∷ bytes) ∷ others) (sym lines_of_none)

-- a line, and those of what follows its newline
pub lines_of_line : (line more : List ℕ) → HasNoNewline line
    → lines ((line ++ 10 ∷ []) ++ more) ≡ line ∷ lines more
lines_of_line line more none =
    let h = pieces_end more in
    ap lines (append_assoc line (10 ∷ []) more)
    ∙ lines-from_pieces (line ++ 10 ∷ more) (line ∷ h.0) h.1
    (pieces-line line more none ∙ ap (λ parts. line ∷ parts) h.2)
    ∙ ap (λ others. line ∷ others) (sym (lines-from_pieces more h.0 h.1 h.2))

-- ---- texts

model : IsNumeralModel (AllDigits 10) (digits_value 10)
model = numerals_by_value (AllDigits 10) tells_digits

decimal_none : (n : ℕ) → n < 2 ^ 64 → HasNoNewline (decimal n)
decimal_none n fits =
    All-from_get_or IsOther (decimal n) 0 (λ i inside.
    λ is. omega (arith, digit_at (decimal n) i (digits_decimal model n fits) inside, is))

-- texts with a space between them
spaced_none : (a b : List ℕ) → HasNoNewline a → HasNoNewline b → HasNoNewline (a ++ 32 ∷ b)
spaced_none a b p q = All-append IsOther a (32 ∷ b) p (All-cons IsOther 32 b (λ is. omega arith) q)

pair_none : (a b : ℕ) → a < 2 ^ 64 → b < 2 ^ 64 → HasNoNewline (pair_text a b)
pair_none a b p q = spaced_none (decimal a) (decimal b) (decimal_none a p) (decimal_none b q)

second_none : (b : ℕ) (extent : Option Extent) → b < 2 ^ 64 → HasExtentNumbers extent
    → HasNoNewline (second_text b extent)
second_none b None fits numbers = decimal_none b fits
second_none b (Some extent) fits numbers = spaced_none (decimal b) (pair_text extent.shift extent.length)
    (decimal_none b fits) (pair_none extent.shift extent.length numbers.0 numbers.1)

pub verdict_none : (verdict : Verdict) → HasNumbers verdict → HasNoNewline (verdict_text verdict)
verdict_none (Halt steps score) fits =
    All-append IsOther (codes " halt ") (pair_text steps score) (search rules)
    (pair_none steps score fits.0 fits.1)
verdict_none (Cycler first second) fits =
    All-append IsOther (codes " cycler ") (pair_text first second) (search rules)
    (pair_none first second fits.0 fits.1)
verdict_none (Translated L first second extent) fits =
    All-append IsOther (codes " translated L ") (records_text first second extent) (search rules)
    (spaced_none (decimal first) (second_text second extent) (decimal_none first fits.0)
    (second_none second extent fits.1 fits.2))
verdict_none (Translated R first second extent) fits =
    All-append IsOther (codes " translated R ") (records_text first second extent) (search rules)
    (spaced_none (decimal first) (second_text second extent) (decimal_none first fits.0)
    (second_none second extent fits.1 fits.2))
verdict_none (Backward levels nodes) fits =
    All-append IsOther (codes " backward ") (pair_text levels nodes) (search rules)
    (pair_none levels nodes fits.0 fits.1)
verdict_none (Undecided Steps) fits = search rules
verdict_none (Undecided Cells) fits = search rules

pub refusal_none : (column : ℕ) → column < 2 ^ 64 → HasNoNewline (refusal_text column)
refusal_none column fits =
    All-append IsOther (codes "refused ") (decimal column) (search rules) (decimal_none column fits)
