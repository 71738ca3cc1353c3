-- The cells that a number's bits tell, and what a write, a test and a count do to them.
use Rattle.std.proofs.Common.{◌≡◌, ◌≢◌, ℕ, zero, suc, ◌+◌, ◌-◌, ◌*◌, ◌/◌, ◌%◌, ◌^◌, ◌<◌, ◌≤◌, min, ℤ, pos}
use Rattle.std.proofs.Common.{negsuc, neg_ℤ, ◌+ℤ◌, ◌-ℤ◌, ap, sym, ◌∙◌, arith, inl, inr}
use Rattle.std.proofs.Common.{bit_and}
use Rattle.std.specs.Int.{bit_at}
use Rattle.std.proofs.Math.Nat.{div-div-eq-div-mul}
use Rattle.std.specs.Int.Count.{ones}
use Rattle.std.proofs.lemmas.Int.{ints, by_lt_z}
use Rattle.std.proofs.lemmas.Bool.{cases_lt, cases_eq}
use Rattle.std.proofs.lemmas.Nat.{pow_pos, pow-add, mod-pow-add, ones_cat}
use Rattle.std.proofs.lemmas.Nat.Bits.{bit_at-lt, bit_at-zero, bit_at_and, bit_at_ones}
use Rattle.std.proofs.lemmas.Nat.Bits.{bit_at_ones_above}
use Rattle.std.proofs.lemmas.Nat.Bits.{same_from_bits}
use Rattle.std.proofs.lemmas.Nat.Bits.{same_from_bits_below, ones_shr}
use Rattle.bb_tape.specs.Content.{Content, blank, cell, with_cell, score}
use Rattle.bb_tape.specs.TapeView.{AgreesFrom}
use Rattle.bb_tape.proofs.Facts.{cell-blank, cell-with_cell-same, cell-with_cell-other, same_content}
use Rattle.bb_tape.proofs.Facts.{score-blank, score-with_cell}
use Rattle.bb_registers.specs.BitCells.{IsInWord, IsStretchInWord, bits_from, bits_content}

-- the position of a bit
abbrev pub at_bit : ℕ → ℤ
at_bit i = pos i -ℤ pos 32

from_other : (n k i : ℕ) → i ≢ k → cell (bits_from n (suc k)) (at_bit i) ≡ cell (bits_from n k) (at_bit i)
from_other n k i apart =
    cell-with_cell-other (bits_from n k) (at_bit k) (bit_at n k) (at_bit i)
    (λ e. apart (omega (arith, ints, e)))

from_inside : (n k i : ℕ) → i < k → cell (bits_from n k) (at_bit i) ≡ bit_at n i
from_inside n zero i h = absurd (omega arith)
from_inside n (suc k) i h =
    elim (cases_eq i k) [
      | inl e ↦ rw e (cell-with_cell-same (bits_from n k) (at_bit k) (bit_at n k))
      | inr apart ↦ from_other n k i apart ∙ from_inside n k i (omega (arith, apart))
    ]

pub from_outside : (n k : ℕ) (p : ℤ) → ((i : ℕ) → i < k → p ≢ at_bit i) → cell (bits_from n k) p ≡ 0
from_outside n zero p apart = cell-blank p
from_outside n (suc k) p apart =
    cell-with_cell-other (bits_from n k) (at_bit k) (bit_at n k) p (apart k (omega arith))
    ∙ from_outside n k p (λ i h. apart i (omega (arith, h)))

-- a position of the 64 has a bit, and the others have 0
pub cell-place : (n at : ℕ) (p : ℤ) → at < 64 → pos at ≡ p +ℤ pos 32 → cell (bits_content n) p ≡ bit_at n at
unfolding bits_content
cell-place n at p h e =
    let here : p ≡ at_bit at = omega (arith, ints, e) in
    rw here (from_inside n 64 at h)

pub cell-outside_word : (n : ℕ) (p : ℤ) → (IsInWord p → ⊥) → cell (bits_content n) p ≡ 0
unfolding bits_content
cell-outside_word n p far = from_outside n 64 p (λ i h e. far (omega (arith, ints, e), omega (arith, ints, e)))

pub by_word : (p : ℤ) (P : Type 0) → (IsInWord p → P) → ((IsInWord p → ⊥) → P) → P
by_word p P near far =
    by_lt_z p (neg_ℤ (pos 32)) (λ below. far (λ h. omega (arith, ints, below, h.0)))
    (λ from. by_lt_z p (pos 32) (λ under. near (from, under)) (λ above. far (λ h. omega (arith, ints, above, h.1))))

-- the bit of a near position
pub bit_of : (p : ℤ) → IsInWord p → (at : ℕ) × (at < 64) × (pos at ≡ p +ℤ pos 32)
bit_of (pos n) near = (n + 32, omega (arith, ints, near.1), omega (arith, ints))
bit_of (negsuc n) near = (31 - n, omega arith, omega (arith, ints, near.0))

pub cell-in_word : (n i : ℕ) → i < 64 → cell (bits_content n) (at_bit i) ≡ bit_at n i
cell-in_word n i h = cell-place n i (at_bit i) h (omega (arith, ints))

-- a tape with these bits and nothing else is that of the number
pub bits_are : (n : ℕ) (c : Content) → ((i : ℕ) → i < 64 → bit_at n i ≡ cell c (at_bit i))
    → ((p : ℤ) → (IsInWord p → ⊥) → cell c p ≡ 0) → bits_content n ≡ c
bits_are n c same zeros = same_content _ _ (λ p.
    by_word p _
    (λ near.
    let b = bit_of p near in
    let here : p ≡ at_bit b.0 = omega (arith, ints, b.2) in
    rw here (cell-in_word n b.0 b.1 ∙ same b.0 b.1))
    (λ far. cell-outside_word n p far ∙ sym (zeros p far)))

pub bits-blank : bits_content 0 ≡ blank
bits-blank = bits_are 0 blank (λ i h. bit_at-zero i ∙ sym (cell-blank _)) (λ p far. cell-blank p)

-- equal tapes have equal numbers
pub bits_unique : (a b : ℕ) → a < 2 ^ 64 → b < 2 ^ 64 → bits_content a ≡ bits_content b → a ≡ b
bits_unique a b p q e =
    same_from_bits_below 64 a b p q
    (λ i h. sym (cell-in_word a i h) ∙ ap (λ c. cell c (at_bit i)) e ∙ cell-in_word b i h)

-- a number in which one bit has changed
pub bits_changed : (n m at v : ℕ) (p : ℤ) → at < 64 → pos at ≡ p +ℤ pos 32 → bit_at m at ≡ v
    → ((i : ℕ) → i < 64 → i ≢ at → bit_at m i ≡ bit_at n i) → bits_content m ≡ with_cell (bits_content n) p v
bits_changed n m at v p h e is others =
    let here : p ≡ at_bit at = omega (arith, ints, e) in
    bits_are m (with_cell (bits_content n) p v)
    (λ i low.
    elim (cases_eq i at) [
      | inl same ↦ rw (same, here) (is ∙ sym (cell-with_cell-same (bits_content n) (at_bit at) v))
      | inr apart ↦
          others i low apart ∙ sym (cell-in_word n i low)
          ∙ sym (cell-with_cell-other (bits_content n) p v (at_bit i) (λ s. apart (omega (arith, ints, s, here))))
    ])
    (λ q far.
    cell-with_cell-other (bits_content n) p v q (λ s. far (omega (arith, ints, s, e, h), omega (arith, ints, s, e, h)))
    ∙ cell-outside_word n q far)

-- ---- the score
ones_bit : (b : ℕ) → b < 2 → ones b ≡ min 1 b
unfolding ones
ones_bit zero h = omega arith
ones_bit (suc zero) h = omega arith
ones_bit (suc (suc b)) h = absurd (omega arith)

ones_next : (n k : ℕ) → ones (n % 2 ^ suc k) ≡ min 1 (bit_at n k) + ones (n % 2 ^ k)
ones_next n k =
    let more : suc k ≡ 1 + k = omega arith in
    let split : n % 2 ^ suc k ≡ bit_at n k * 2 ^ k + n % 2 ^ k = rw more (mod-pow-add n 1 k) in
    rw split (
    ones_cat k (bit_at n k) (n % 2 ^ k) (omega (arith, pow_pos k))
    ∙ ap (λ m. m + ones (n % 2 ^ k)) (ones_bit (bit_at n k) (bit_at-lt n k)))

score_from : (n k : ℕ) → score (bits_from n k) ≡ ones (n % 2 ^ k)
unfolding ones
score_from n zero = let none : n % 2 ^ 0 ≡ 0 = omega arith in rw none score-blank
score_from n (suc k) =
    let free : cell (bits_from n k) (at_bit k) ≡ 0 =
    from_outside n k (at_bit k) (λ i h e. omega (arith, ints, e, h)) in
    let more : score (bits_from n (suc k)) + min 1 (cell (bits_from n k) (at_bit k))
    ≡ score (bits_from n k) + min 1 (bit_at n k) = score-with_cell (bits_from n k) (at_bit k) (bit_at n k) in
    let before = score_from n k in
    omega (arith, more, free, before, ones_next n k)

pub score-bits : (n : ℕ) → n < 2 ^ 64 → score (bits_content n) ≡ ones n
unfolding bits_content
score-bits n h = score_from n 64 ∙ ap ones (omega (arith, h))

-- ---- stretches
bit_at-shifted : (n i k : ℕ) → bit_at (n / 2 ^ i) k ≡ bit_at n (i + k)
bit_at-shifted n i k = ap (λ m. m % 2)
    (div-div-eq-div-mul n (2 ^ i) (2 ^ k) ∙ ap (λ m. n / m) (sym (pow-add 2 i k)))

-- the low len bits, by the mask that the code makes
abbrev pub low : ℕ → ℕ → ℕ
low n len = bit_and n ((2 ^ 64 - 1) / 2 ^ (64 - len))

mask_is : (len : ℕ) → len ≤ 64 → (2 ^ 64 - 1) / 2 ^ (64 - len) ≡ 2 ^ len - 1
mask_is len h =
    let same : 64 - (64 - len) ≡ len = omega (arith, h) in
    ones_shr 64 (64 - len) (omega arith) ∙ ap (λ k. 2 ^ k - 1) same

low_inside : (n len k : ℕ) → len ≤ 64 → k < len → bit_at (low n len) k ≡ bit_at n k
low_inside n len k h below =
    rw (mask_is len h) (bit_at_and n (2 ^ len - 1) k ∙ omega (arith, bit_at_ones len k below, bit_at-lt n k))

low_above : (n len k : ℕ) → len ≤ 64 → len ≤ k → bit_at (low n len) k ≡ 0
low_above n len k h above =
    rw (mask_is len h) (bit_at_and n (2 ^ len - 1) k ∙ omega (arith, bit_at_ones_above len k above))

cell-shifted : (n i k : ℕ) (from : ℤ) → pos i ≡ from +ℤ pos 32 → i + k < 64
    → cell (bits_content n) (from +ℤ pos k) ≡ bit_at (n / 2 ^ i) k
cell-shifted n i k from e h =
    cell-place n (i + k) (from +ℤ pos k) h (omega (arith, ints, e)) ∙ sym (bit_at-shifted n i k)

-- two stretches agree where their bits, shifted down, do
module _ (a b i j len : ℕ) (from other : ℤ) (e : pos i ≡ from +ℤ pos 32) (f : pos j ≡ other +ℤ pos 32)
    (here : IsStretchInWord from len) (there : IsStretchInWord other len) where
  pub agree_from_bits : low (a / 2 ^ i) len ≡ low (b / 2 ^ j) len
      → AgreesFrom (bits_content a) from (bits_content b) other len
  agree_from_bits same k below =
      let most : len ≤ 64 = omega (arith, ints, here.0, here.1) in
      cell-shifted a i k from e (omega (arith, ints, e, here.1, below))
      ∙ sym (low_inside (a / 2 ^ i) len k most below) ∙ ap (λ n. bit_at n k) same
      ∙ low_inside (b / 2 ^ j) len k most below
      ∙ sym (cell-shifted b j k other f (omega (arith, ints, f, there.1, below)))

  pub bits_from_agree : AgreesFrom (bits_content a) from (bits_content b) other len
      → low (a / 2 ^ i) len ≡ low (b / 2 ^ j) len
  bits_from_agree agree =
      let most : len ≤ 64 = omega (arith, ints, here.0, here.1) in
      same_from_bits _ _ (λ k.
      elim (cases_lt k len) [
        | inl below ↦
            low_inside (a / 2 ^ i) len k most below
            ∙ sym (cell-shifted a i k from e (omega (arith, ints, e, here.1, below))) ∙ agree k below
            ∙ cell-shifted b j k other f (omega (arith, ints, f, there.1, below))
            ∙ sym (low_inside (b / 2 ^ j) len k most below)
        | inr above ↦ low_above (a / 2 ^ i) len k most above ∙ sym (low_above (b / 2 ^ j) len k most above)
      ])
