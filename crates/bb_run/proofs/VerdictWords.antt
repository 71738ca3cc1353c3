-- Numbers of few digits, and the words of a verdict that end with them.
use Rattle.std.proofs.Common.{◌≡◌, ℕ, ◌<◌, ◌≤◌, ◌^◌, List, [], ◌∷◌, ◌++◌, length, take, drop, get_or, decimal}
use Rattle.std.proofs.Common.{refl, sym, ◌∙◌, ap, arith, append_assoc, Some}
use Rattle.std.specs.Str.Parse.{AllDigits, digits_value}
use Rattle.std.proofs.lemmas.Fmt.{decimal-digits_value}
use Rattle.std.proofs.lemmas.List.{append-nil, get_or-take, length-take-le, take-append-drop}
use Rattle.std.proofs.lemmas.Str.Parse.{IsNumeralModel, digits_value_short, numerals_by_value, tells_digits}
use Rattle.bb_cert.specs.verdict.Line.{pair_text, records_text}

model : IsNumeralModel (AllDigits 10) (digits_value 10)
model = numerals_by_value (AllDigits 10) tells_digits

-- the bytes begin with a number's text, and this comes after it
abbrev pub BeginsWithNumber : List ℕ → List ℕ → Type 0
BeginsWithNumber bytes rest = (n : ℕ) × (n < 2 ^ 64) × (decimal n ++ rest ≡ bytes)

-- a few first digits, none of them a zero before others, are a number's text
pub number_at_first : (bytes : List ℕ) (count : ℕ) → count ≤ length bytes → AllDigits 10 (take count bytes)
    → 0 < count → count ≤ 19 → (get_or bytes 0 0 ≡ 48 → count ≡ 1)
    → BeginsWithNumber bytes (drop count bytes)
number_at_first bytes count within digits some few no_zero =
    let long = length-take-le count bytes within in
    let small = digits_value_short model (take count bytes) 19 digits (omega arith) in
    let fits : digits_value 10 (take count bytes) < 2 ^ 64 = omega (arith, small) in
    let first = get_or-take count bytes 0 0 some in
    let text = decimal-digits_value model (take count bytes) digits (omega arith)
    (λ zero. long ∙ no_zero (sym first ∙ zero)) fits in (
      digits_value 10 (take count bytes),
      fits,
      ap (λ digits. digits ++ drop count bytes) text ∙ take-append-drop count bytes,
    )

pub empty : (bytes : List ℕ) → length bytes < 1 → bytes ≡ []
empty [] few = refl
empty (byte ∷ bytes) few = absurd (omega arith)

-- first words and a pair behind them, where nothing comes after it
pub words_of_pair : (first words numbers rest : List ℕ) (a b : ℕ) → words ≡ first ++ numbers
    → pair_text a b ++ rest ≡ numbers → length rest < 1 → first ++ pair_text a b ≡ words
words_of_pair first words numbers rest a b begins is none =
    ap (λ text. first ++ text) (sym (append-nil (pair_text a b))
    ∙ ap (λ more. pair_text a b ++ more) (sym (empty rest none)) ∙ is) ∙ sym begins

-- and where an extent does
pub words_of_records : (first words numbers rest more nothing : List ℕ) (a b shift far : ℕ)
    → words ≡ first ++ numbers → pair_text a b ++ rest ≡ numbers → 32 ∷ more ≡ rest
    → pair_text shift far ++ nothing ≡ more → length nothing < 1
    → first ++ records_text a b (Some (record { shift = shift; length = far })) ≡ words
words_of_records first words numbers rest more nothing a b shift far begins is space extent none =
    let same_pair : 32 ∷ pair_text shift far ≡ rest =
    ap (λ text. 32 ∷ text) (sym (append-nil (pair_text shift far))
    ∙ ap (λ after. pair_text shift far ++ after) (sym (empty nothing none)) ∙ extent) ∙ space in
    ap (λ text. first ++ text) (sym (append_assoc (decimal a) (32 ∷ decimal b) (32 ∷ pair_text shift far))
    ∙ ap (λ text. pair_text a b ++ text) same_pair ∙ is) ∙ sym begins
