-- The bytes of an entry of a machine with two symbols, by tests.
use Rattle.std.proofs.Common.{◌≡◌, ℕ, zero, suc, ◌+◌, ◌-◌, ◌%◌, ◌<◌, ◌≤◌, Bool, true, ◌&&◌, ◌||◌, eqb, leb}
use Rattle.std.proofs.Common.{List, ◌∷◌, length, get_or, drop, ap, ◌∙◌, refl, sym, arith, inl, inr}
use Rattle.std.proofs.lemmas.Bool.{eqb-true, eq-eqb, leb-true, le-leb, and_parts, or_cases, and_from}
use Rattle.std.proofs.lemmas.Bool.{or_left, or_right}
use Rattle.bb_machine.specs.declared.entry.Dir.{Dir}
use Rattle.bb_machine.specs.declared.entry.Dir.TheVariants.{L, R}
use Rattle.bb_machine.specs.declared.entry.Next.{Next}
use Rattle.bb_machine.specs.declared.entry.Next.TheVariants.{State, Halt}
use Rattle.bb_machine.specs.declared.entry.Entry.{Entry}
use Rattle.bb_machine.specs.declared.entry.Entry.TheVariants.{Undefined, Go}
use Rattle.bb_machine.specs.Entry.{dir_letter, next_letter, entry_text, IsNextOf, IsEntryOf}
use Rattle.bb_machine.specs.Column.{BeginsWith}
use Rattle.bb_machine.proofs.Entries.{three, letters_make}

abbrev is_digit : ℕ → Bool
is_digit a = eqb a 48 || eqb a 49

abbrev is_dir : ℕ → Bool
is_dir b = eqb b 76 || eqb b 82

abbrev is_next : ℕ → ℕ → Bool
is_next states c = leb ((c + 191) % 256) (states - 1) || eqb c 90

abbrev is_undefined : ℕ → ℕ → ℕ → Bool
is_undefined a b c = (eqb a 45 && eqb b 45) && eqb c 45

-- the bytes are an entry's
abbrev pub is_entry : ℕ → ℕ → ℕ → ℕ → Bool
is_entry states a b c = is_undefined a b c || ((is_digit a && is_dir b) && is_next states c)

digit_is : (a : ℕ) → is_digit a ≡ true → (w : ℕ) × (w < 2) × (48 + w ≡ a)
digit_is a is =
    elim (or_cases (eqb a 48) (eqb a 49) is) [
      | inl nought ↦ (0, omega arith, sym (eqb-true a 48 nought))
      | inr one ↦ (1, omega arith, sym (eqb-true a 49 one))
    ]

dir_is : (b : ℕ) → is_dir b ≡ true → (d : Dir) × (dir_letter d ≡ b)
dir_is b is =
    elim (or_cases (eqb b 76) (eqb b 82) is) [
      | inl left ↦ (L, sym (eqb-true b 76 left))
      | inr right ↦ (R, sym (eqb-true b 82 right))
    ]

next_is : (states c : ℕ) → 0 < states → states ≤ 25 → c < 256 → is_next states c ≡ true
    → (n : Next) × IsNextOf states n × (next_letter n ≡ c)
next_is states c some few fits is =
    elim (or_cases (leb ((c + 191) % 256) (states - 1)) (eqb c 90) is) [
      | inl below ↦
          (let low = leb-true ((c + 191) % 256) (states - 1) below in
          (State (c - 65), omega (arith, low, some, few, fits), omega (arith, low, some, few, fits)))
      | inr halt ↦ (Halt, tt, sym (eqb-true c 90 halt))
    ]

-- where the first three bytes pass the tests an entry stands, and nowhere else
pub entry_from : (states : ℕ) (bytes : List ℕ) → 0 < states → states ≤ 25 → 3 ≤ length bytes
    → get_or bytes 2 0 < 256
    → is_entry states (get_or bytes 0 0) (get_or bytes 1 0) (get_or bytes 2 0) ≡ true
    → (e : Entry) × IsEntryOf states 2 e × BeginsWith bytes (entry_text e)
entry_from states bytes some few room fits is =
    let a : ℕ = get_or bytes 0 0 in
    let b : ℕ = get_or bytes 1 0 in
    let c : ℕ = get_or bytes 2 0 in
    elim (or_cases (is_undefined a b c) ((is_digit a && is_dir b) && is_next states c) is) [
      | inl dashes ↦
          (let all = and_parts (eqb a 45 && eqb b 45) (eqb c 45) dashes in
          let two = and_parts (eqb a 45) (eqb b 45) all.0 in
          undefined_from (eqb-true a 45 two.0) (eqb-true b 45 two.1) (eqb-true c 45 all.1))
      | inr goes ↦
          (let all = and_parts (is_digit a && is_dir b) (is_next states c) goes in
          let two = and_parts (is_digit a) (is_dir b) all.0 in
          let digit = digit_is a two.0 in
          let dir = dir_is b two.1 in
          let next = next_is states c some few fits all.1 in
          letters_make bytes states 2 digit.0 dir.0 next.0 room digit.1 next.1 digit.2 dir.1 next.2)
    ]
  where
    undefined_from : get_or bytes 0 0 ≡ 45 → get_or bytes 1 0 ≡ 45 → get_or bytes 2 0 ≡ 45
        → (e : Entry) × IsEntryOf states 2 e × BeginsWith bytes (entry_text e)
    undefined_from first second third =
        let is : bytes ≡ get_or bytes 0 0 ∷ get_or bytes 1 0 ∷ get_or bytes 2 0 ∷ drop 3 bytes =
        three bytes room in
        let letters : get_or bytes 0 0 ∷ get_or bytes 1 0 ∷ get_or bytes 2 0 ∷ drop 3 bytes
        ≡ 45 ∷ 45 ∷ 45 ∷ drop 3 bytes = cc in
        (Undefined, tt, (drop 3 bytes, is ∙ letters))

digit_passes : (w a : ℕ) → w < 2 → 48 + w ≡ a → is_digit a ≡ true
digit_passes zero a below is = or_left (eqb a 48) (eqb a 49) (eq-eqb a 48 (sym is))
digit_passes (suc zero) a below is = or_right (eqb a 48) (eqb a 49) (eq-eqb a 49 (sym is))
digit_passes (suc (suc w)) a below is = absurd (omega arith)

dir_passes : (d : Dir) (b : ℕ) → dir_letter d ≡ b → is_dir b ≡ true
dir_passes L b is = or_left (eqb b 76) (eqb b 82) (eq-eqb b 76 (sym is))
dir_passes R b is = or_right (eqb b 76) (eqb b 82) (eq-eqb b 82 (sym is))

next_passes : (states : ℕ) (n : Next) (c : ℕ) → states ≤ 25 → IsNextOf states n → next_letter n ≡ c
    → is_next states c ≡ true
next_passes states (State q) c few below is =
    let low : (c + 191) % 256 ≤ states - 1 = omega (arith, few, below, is) in
    or_left (leb ((c + 191) % 256) (states - 1)) (eqb c 90) (le-leb ((c + 191) % 256) (states - 1) low)
next_passes states Halt c few below is =
    or_right (leb ((c + 191) % 256) (states - 1)) (eqb c 90) (eq-eqb c 90 (sym is))

pub entry_passes : (states : ℕ) (bytes : List ℕ) → states ≤ 25 → (e : Entry) → IsEntryOf states 2 e
    → BeginsWith bytes (entry_text e)
    → is_entry states (get_or bytes 0 0) (get_or bytes 1 0) (get_or bytes 2 0) ≡ true
entry_passes states bytes few Undefined named begins =
    rw begins.1 refl
entry_passes states bytes few (Go w d n) named begins =
    let a : ℕ = get_or bytes 0 0 in
    let b : ℕ = get_or bytes 1 0 in
    let c : ℕ = get_or bytes 2 0 in
    let digit = digit_passes w a named.0 (sym (ap (λ x. get_or x 0 0) begins.1)) in
    let dir = dir_passes d b (sym (ap (λ x. get_or x 1 0) begins.1)) in
    let next = next_passes states n c few named.1 (sym (ap (λ x. get_or x 2 0) begins.1)) in
    or_right (is_undefined a b c) ((is_digit a && is_dir b) && is_next states c)
    (and_from (is_digit a && is_dir b) (is_next states c) (and_from (is_digit a) (is_dir b) digit dir) next)

-- the tests of three bytes, and of the third one less `A`
pub tests_of : (states a b c s x y z : ℕ) → a ≡ x → b ≡ y → c ≡ z → s ≡ (c + 191) % 256
    → (((eqb a 45 && eqb b 45) && eqb c 45)
    || (((eqb a 48 || eqb a 49) && (eqb b 76 || eqb b 82)) && (leb s (states - 1) || eqb c 90)))
    ≡ is_entry states x y z
tests_of states a b c s x y z first second third less = rw (less, first, second, third) refl
