-- The table that two numbers tell is the one that was packed.
use Rattle.std.proofs.Common.{◌≡◌, ℕ, zero, suc, ◌+◌, ◌*◌, ◌/◌, ◌%◌, ◌^◌, ◌<◌, List, [], ◌∷◌, length, get_or}
use Rattle.std.proofs.Common.{ap, sym, refl, ◌∙◌, arith}
use Rattle.std.proofs.lemmas.Nat.{pow-add}
use Rattle.std.proofs.Math.Nat.{div-div-eq-div-mul}
use Rattle.std.specs.List.{AllByRecursion}
use Rattle.bb_machine.specs.declared.entry.Dir.{Dir}
use Rattle.bb_machine.specs.declared.entry.Dir.TheVariants.{L, R}
use Rattle.bb_machine.specs.declared.entry.Next.TheVariants.{State, Halt}
use Rattle.bb_machine.specs.declared.entry.Entry.{Entry}
use Rattle.bb_machine.specs.declared.entry.Entry.TheVariants.{Undefined, Go}
use Rattle.bb_machine.specs.Machine.{IsGroup, entry_of}
use Rattle.bb_machine.specs.Packed.{IsPackedEntry, right_bit, dir_of_bit, entry_in_bits, unpacked}

dir_kept : (d : Dir) → dir_of_bit (right_bit d) ≡ d
dir_kept L = refl
dir_kept R = refl

-- nine bits that tell an entry tell no other
pub entry_kept : (symbol f : ℕ) (e : Entry) → IsPackedEntry f symbol e → entry_in_bits symbol f ≡ e
entry_kept symbol f Undefined is = rw (is.0, is.1) refl
entry_kept symbol f (Go write dir Halt) is = rw (is.0, is.1, ← is.2, is.3, dir_kept dir) refl
entry_kept symbol f (Go write dir (State state)) is =
    let low : f % 64 / 9 ≡ state = omega (arith, is.3) in
    rw (is.0, is.1, ← is.2, low, dir_kept dir) refl

next_place : (n q : ℕ) → n / 512 / 2 ^ (9 * q) ≡ n / 2 ^ (9 * suc q)
next_place n q =
    let more : 9 * suc q ≡ 9 + 9 * q = omega arith in
    rw more (div-div-eq-div-mul n 512 (2 ^ (9 * q)) ∙ ap (λ m. n / m) (sym (pow-add 2 9 (9 * q))))

pub get_or-unpacked : (states for_zero for_one q : ℕ) → q < states
    → get_or (unpacked states for_zero for_one) q []
    ≡ entry_in_bits 0 (for_zero / 2 ^ (9 * q)) ∷ entry_in_bits 1 (for_one / 2 ^ (9 * q)) ∷ []
get_or-unpacked zero for_zero for_one q below = absurd (omega arith)
get_or-unpacked (suc states) for_zero for_one zero below =
    let first : for_zero ≡ for_zero / 2 ^ (9 * 0) = omega arith in
    let second : for_one ≡ for_one / 2 ^ (9 * 0) = omega arith in
    ap (λ n. entry_in_bits 0 n ∷ entry_in_bits 1 for_one ∷ []) first
    ∙ ap (λ n. entry_in_bits 0 (for_zero / 2 ^ (9 * 0)) ∷ entry_in_bits 1 n ∷ []) second
get_or-unpacked (suc states) for_zero for_one (suc q) below =
    get_or-unpacked states (for_zero / 512) (for_one / 512) q (omega arith)
    ∙ (let z = next_place for_zero q in let o = next_place for_one q in rw (z, o) refl)

pair_of : (g : List Entry) → length g ≡ 2 → g ≡ get_or g 0 Undefined ∷ get_or g 1 Undefined ∷ []
pair_of [] two = absurd (omega arith)
pair_of (a ∷ []) two = absurd (omega arith)
pair_of (a ∷ b ∷ []) two = refl
pair_of (a ∷ b ∷ c ∷ g) two = absurd (omega arith)

-- each entry of a table is in its place
abbrev pub ArePacked : List (List Entry) → ℕ → ℕ → Type 0
ArePacked gs symbol n = (q : ℕ) → q < length gs → IsPackedEntry (n / 2 ^ (9 * q)) symbol (entry_of gs q symbol)

packed_first : (g : List Entry) (gs : List (List Entry)) (symbol n : ℕ) → ArePacked (g ∷ gs) symbol n
    → entry_in_bits symbol n ≡ get_or g symbol Undefined
packed_first g gs symbol n all =
    let here : n / 2 ^ (9 * 0) ≡ n = omega arith in
    entry_kept symbol n (get_or g symbol Undefined) (rw here at (all 0 (omega arith)))

packed_rest : (g : List Entry) (gs : List (List Entry)) (symbol n : ℕ) → ArePacked (g ∷ gs) symbol n
    → ArePacked gs symbol (n / 512)
packed_rest g gs symbol n all q below = rw (next_place n q) (all (suc q) (omega (arith, below)))

pub unpacked_is : (s : ℕ) (gs : List (List Entry)) (for_zero for_one : ℕ) → AllByRecursion (IsGroup s 2) gs
    → ArePacked gs 0 for_zero → ArePacked gs 1 for_one → unpacked (length gs) for_zero for_one ≡ gs
unpacked_is s [] for_zero for_one groups zero_is one_is = refl
unpacked_is s (g ∷ gs) for_zero for_one groups zero_is one_is =
    let z = packed_first g gs 0 for_zero zero_is in
    let o = packed_first g gs 1 for_one one_is in
    let rest = unpacked_is s gs (for_zero / 512) (for_one / 512) groups.1 (packed_rest g gs 0 for_zero zero_is)
    (packed_rest g gs 1 for_one one_is) in
    rw (z, o, rest) (ap (λ x. x ∷ gs) (sym (pair_of g groups.0.full)))
