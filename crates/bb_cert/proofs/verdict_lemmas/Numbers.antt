-- Decimal texts: one for each number, with no sign and no leading zero.
use Rattle.std.proofs.Common.{◌≡◌, ◌≢◌, ℕ, ◌+◌, ◌*◌, ◌<◌, ◌≤◌, ◌^◌, List, [], ◌∷◌, ◌++◌, length, get_or, decimal, Option}
use Rattle.std.proofs.Common.{Some, None, refl, subst, sym, ◌∙◌, ap, inl, inr, arith}
use Rattle.std.specs.Str.{IsUtf8}
use Rattle.std.specs.Char.{digit_value}
use Rattle.std.specs.Str.Parse.{AllDigits, digits_value, digits_value_after}
use Rattle.std.proofs.lemmas.Bool.{cases_lt}
use Rattle.std.proofs.lemmas.Fmt.{decimal_digit, first_decimal, IsAscii-decimal}
use Rattle.std.proofs.lemmas.Fmt.{decimal_injective, digits_decimal, decimal-digits_value, digits_value-decimal}
use Rattle.std.proofs.lemmas.List.Elements.{All-from_get_or}
use Rattle.std.proofs.lemmas.Str.{IsUtf8-from_ascii}
use Rattle.std.proofs.lemmas.Str.Parse.{IsNumeralModel, digit_at, numerals_by_value, tells_digits}
use Rattle.bb_cert.specs.declared.verdict.Extent.{Extent}
use Rattle.bb_cert.specs.verdict.Line.{pair_text, records_text, second_text}
use Rattle.bb_cert.proofs.verdict_lemmas.Spaces.{HasNoSpace, no_space_within, same_split}

model : IsNumeralModel (AllDigits 10) (digits_value 10)
model = numerals_by_value (AllDigits 10) tells_digits

pub decimal_utf8 : (n : ℕ) → n < 2 ^ 64 → IsUtf8 (decimal n)
decimal_utf8 n fits = IsUtf8-from_ascii (decimal n) (IsAscii-decimal n fits)

pub decimal_no_space : (n : ℕ) → n < 2 ^ 64 → HasNoSpace (decimal n)
decimal_no_space n fits =
    All-from_get_or (λ byte. byte ≢ 32) (decimal n) 0 (λ i inside.
    λ is. omega (arith, digit_at (decimal n) i (digits_decimal model n fits) inside, is))

pub decimal_no_zero : (n : ℕ) → n < 2 ^ 64 → 1 < length (decimal n) → get_or (decimal n) 0 0 ≢ 48
decimal_no_zero n fits long is =
    elim (cases_lt 0 n) [
      | inl some ↦ omega (arith, first_decimal n some fits, is)
      | inr none ↦ omega (arith, long, ap length (decimal_digit n (omega arith)))
    ]

-- a value within 64 bits, of digits without a leading zero, is the number with that text
pub number_read : (bytes : List ℕ) (n : ℕ) → AllDigits 10 bytes → 0 < length bytes
    → (1 < length bytes → get_or bytes 0 0 ≢ 48) → n < 2 ^ 64 → digits_value 10 bytes ≡ n → decimal n ≡ bytes
number_read bytes n all some no_zero fits is =
    let one : get_or bytes 0 0 ≡ 48 → length bytes ≡ 1 = λ zero.
    elim (cases_lt 1 (length bytes)) [
      | inl long ↦ absurd (no_zero long zero)
      | inr short ↦ omega (arith, some)
    ] in
    ap decimal (sym is) ∙ decimal-digits_value model bytes all some one (omega (arith, is))

-- other bytes, and a value from 2^64 on, are the text of no number
pub no_number_read : (bytes : List ℕ) → (AllDigits 10 bytes → 2 ^ 64 ≤ digits_value 10 bytes)
    → (n : ℕ) → n < 2 ^ 64 → decimal n ≢ bytes
no_number_read bytes large n fits is =
    omega (
      arith,
      large (subst (AllDigits 10) is (digits_decimal model n fits)),
      digits_value-decimal model n fits,
      ap (digits_value 10) is,
    )

-- two numbers with a space between them are split at that space
pub pair_split : (a b : ℕ) {prefix rest bytes : List ℕ} → a < 2 ^ 64 → HasNoSpace prefix
    → prefix ++ 32 ∷ rest ≡ bytes → pair_text a b ≡ bytes → (decimal a ≡ prefix) × (decimal b ≡ rest)
pair_split a b {prefix} {rest} fits none parts is =
    same_split (decimal a) prefix (decimal b) rest (decimal_no_space a fits) none (is ∙ sym parts)

-- the steps of two records are split there too
pub records_split : (a b : ℕ) (extent : Option Extent) {prefix rest bytes : List ℕ} → a < 2 ^ 64
    → HasNoSpace prefix → prefix ++ 32 ∷ rest ≡ bytes → records_text a b extent ≡ bytes
    → (decimal a ≡ prefix) × (second_text b extent ≡ rest)
records_split a b extent {prefix} {rest} fits none parts is =
    same_split (decimal a) prefix (second_text b extent) rest (decimal_no_space a fits) none (is ∙ sym parts)

-- where a space stands after the second of them, an extent does
pub second_split : (b : ℕ) (extent : Option Extent) {prefix rest bytes : List ℕ} → b < 2 ^ 64
    → HasNoSpace prefix → prefix ++ 32 ∷ rest ≡ bytes → second_text b extent ≡ bytes
    → (claimed : Extent) × (extent ≡ Some claimed) × (decimal b ≡ prefix)
    × (pair_text claimed.shift claimed.length ≡ rest)
second_split b None {prefix} {rest} fits none parts is =
    absurd (no_space_within prefix rest (decimal b) (decimal_no_space b fits) (parts ∙ sym is))
second_split b (Some claimed) {prefix} {rest} fits none parts is =
    let split = same_split (decimal b) prefix (pair_text claimed.shift claimed.length) rest
    (decimal_no_space b fits) none (is ∙ sym parts) in
    (claimed, refl, split.0, split.1)

pub pair_apart : (a b c d : ℕ) → a < 2 ^ 64 → b < 2 ^ 64 → c < 2 ^ 64 → d < 2 ^ 64
    → pair_text a b ≡ pair_text c d → (a ≡ c) × (b ≡ d)
pair_apart a b c d p q r s is =
    let parts = pair_split a b p (decimal_no_space c r) refl is in
    (decimal_injective a c p r parts.0, decimal_injective b d q s parts.1)

-- with nothing left to read, the value is that of all digits
pub value_at_end : (digits rest : List ℕ) (value : ℕ) → length rest ≡ 0
    → (AllDigits 10 rest → AllDigits 10 digits) → digits_value_after 10 value rest ≡ digits_value 10 digits
    → AllDigits 10 digits × (digits_value 10 digits ≡ value)
value_at_end digits [] value none read is = (read tt, sym is)
value_at_end digits (c ∷ cs) value none read is = absurd (omega (arith, none))

value_after_not_below : (n : ℕ) (digits : List ℕ) → n ≤ digits_value_after 10 n digits
value_after_not_below n [] = omega arith
value_after_not_below n (c ∷ cs) = omega (arith, value_after_not_below (n * 10 + digit_value c) cs)

-- if it is too large with one more digit, it is with all
pub value_too_large : (digits rest : List ℕ) (value digit : ℕ) (others : List ℕ) → rest ≡ digit ∷ others
    → (AllDigits 10 digits → AllDigits 10 rest) → digits_value_after 10 value rest ≡ digits_value 10 digits
    → (digit_value digit < 10 → 2 ^ 64 ≤ value * 10 + digit_value digit)
    → AllDigits 10 digits → 2 ^ 64 ≤ digits_value 10 digits
value_too_large digits rest value digit others parts ahead is large all =
    let here = subst (AllDigits 10) parts (ahead all) in
    omega (
      arith,
      large here.0,
      value_after_not_below (value * 10 + digit_value digit) others,
      ap (digits_value_after 10 value) parts,
      is,
    )
