-- Texts without a space, and how a line is split at its first one.
use Rattle.std.proofs.Common.{◌≡◌, ◌≢◌, ℕ, ◌+◌, ◌<◌, ◌^◌, List, [], ◌∷◌, ◌++◌, decimal, refl, sym, subst, arith}
use Rattle.std.specs.List.{All}
use Rattle.std.specs.Str.Parse.{AllDigits, digits_value}
use Rattle.std.proofs.lemmas.Fmt.{digits_decimal}
use Rattle.std.proofs.lemmas.List.Elements.{All-append, All-cons, All-from_get_or, All-head, All-nil, All-tail}
use Rattle.std.proofs.lemmas.Str.Parse.{IsNumeralModel, digit_at, numerals_by_value, tells_digits}
use Rattle.bb_machine.specs.declared.entry.Dir.{Dir}
use Rattle.bb_machine.specs.declared.entry.Dir.TheVariants.{L, R}
use Rattle.bb_machine.specs.declared.entry.Next.{Next}
use Rattle.bb_machine.specs.declared.entry.Next.TheVariants.{State, Halt}
use Rattle.bb_machine.specs.declared.entry.Entry.{Entry}
use Rattle.bb_machine.specs.declared.entry.Entry.TheVariants.{Undefined, Go}
use Rattle.bb_machine.specs.Entry.{dir_letter, entry_text, next_letter}
use Rattle.bb_machine.specs.Machine.{Table, group_text, text}
use Rattle.bb_machine.proofs.Facts.{tail_text}

abbrev pub NoSpace : ℕ → Type 0
NoSpace byte = byte ≢ 32

abbrev pub HasNoSpace : List ℕ → Type 0
HasNoSpace bytes = All NoSpace bytes

pub no_space_within : (prefix rest bytes : List ℕ) → HasNoSpace bytes → prefix ++ 32 ∷ rest ≡ bytes → ⊥
no_space_within [] rest bytes none is = All-head NoSpace 32 rest (subst HasNoSpace (sym is) none) refl
no_space_within (b ∷ prefix) rest bytes none is =
    no_space_within prefix rest (prefix ++ 32 ∷ rest)
    (All-tail NoSpace b (prefix ++ 32 ∷ rest) (subst HasNoSpace (sym is) none)) refl

-- two texts that go on behind their first space the same way
pub same_split : (a b x y : List ℕ) → HasNoSpace a → HasNoSpace b → a ++ 32 ∷ x ≡ b ++ 32 ∷ y
    → (a ≡ b) × (x ≡ y)
same_split [] [] x y _ _ is = (refl, cc)
same_split [] (d ∷ b) x y _ q is = let first : d ≡ 32 = cc in absurd (All-head NoSpace d b q first)
same_split (c ∷ a) [] x y p _ is = let first : c ≡ 32 = cc in absurd (All-head NoSpace c a p first)
same_split (c ∷ a) (d ∷ b) x y p q is =
    let rest = same_split a b x y (All-tail NoSpace c a p) (All-tail NoSpace d b q) cc in
    let prefixes : a ≡ b = rest.0 in
    (cc, rest.1)

-- numbers

model : IsNumeralModel (AllDigits 10) (digits_value 10)
model = numerals_by_value (AllDigits 10) tells_digits

pub decimal_no_space : (n : ℕ) → n < 2 ^ 64 → HasNoSpace (decimal n)
decimal_no_space n fits = All-from_get_or NoSpace (decimal n) 0 (λ i inside is.
    omega (arith, digit_at (decimal n) i (digits_decimal model n fits) inside, is))

-- machines

above : (a b c : ℕ) → 32 < a → 32 < b → 32 < c → HasNoSpace (a ∷ b ∷ c ∷ [])
above a b c p q r =
    All-cons NoSpace a (b ∷ c ∷ []) (λ is. omega arith) (All-cons NoSpace b (c ∷ []) (λ is. omega arith)
    (All-cons NoSpace c [] (λ is. omega arith) (All-nil NoSpace)))

dir_above : (d : Dir) → 32 < dir_letter d
dir_above L = omega arith
dir_above R = omega arith

next_above : (n : Next) → 32 < next_letter n
next_above (State q) = omega arith
next_above Halt = omega arith

entry_no_space : (e : Entry) → HasNoSpace (entry_text e)
entry_no_space Undefined = above 45 45 45 (omega arith) (omega arith) (omega arith)
entry_no_space (Go write dir next) = above (48 + write) (dir_letter dir) (next_letter next) (omega arith)
    (dir_above dir) (next_above next)

group_no_space : (g : List Entry) → HasNoSpace (group_text g)
group_no_space [] = All-nil NoSpace
group_no_space (e ∷ g) = All-append NoSpace (entry_text e) (group_text g) (entry_no_space e) (group_no_space g)

tail_no_space : (gs : Table) → HasNoSpace (tail_text gs)
tail_no_space [] = All-nil NoSpace
tail_no_space (g ∷ gs) = All-cons NoSpace 95 (group_text g ++ tail_text gs) (λ is. omega arith)
    (All-append NoSpace (group_text g) (tail_text gs) (group_no_space g) (tail_no_space gs))

pub text_no_space : (table : Table) → HasNoSpace (text table)
text_no_space [] = All-nil NoSpace
text_no_space (g ∷ gs) =
    All-append NoSpace (group_text g) (tail_text gs) (group_no_space g) (tail_no_space gs)
