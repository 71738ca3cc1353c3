-- Tests of one bit.
use Rattle.std.proofs.Common.{◌≡◌, ◌≢◌, ℕ, zero, suc, ◌*◌, ◌^◌, ◌<◌, ◌⊎◌, inl, inr, refl, ap, ◌∙◌, arith}
use Rattle.std.proofs.Common.{bit_and, IsTrue, nat_eq}
use Rattle.std.specs.Prelude.{not, ◌↔◌}
use Rattle.std.specs.Int.{bit_at}
use Rattle.std.proofs.lemmas.Nat.{pow_pos}
use Rattle.std.proofs.lemmas.Nat.Bits.{and_pow, bit_at-lt}
use Rattle.std.proofs.lemmas.Bool.Decides.{Decides-eqb, nat_tests}
use Rattle.bb_registers.specs.Registers.{moved_head, flipped_bits}

pub by_bit : (b : ℕ) → b < 2 → (b ≡ 0) ⊎ (b ≡ 1)
by_bit zero h = inl refl
by_bit (suc zero) h = inr refl
by_bit (suc (suc b)) h = absurd (omega arith)

-- what `n & (1 << k)` says of bit k
pub bit_clear : (n k : ℕ) → bit_and n (2 ^ k) ≡ 0 → bit_at n k ≡ 0
bit_clear n k none = elim (by_bit (bit_at n k) (bit_at-lt n k)) [
  | inl is ↦ is
  | inr one ↦
      let whole : bit_and n (2 ^ k) ≡ 2 ^ k = and_pow n k ∙ ap (λ b. b * 2 ^ k) one ∙ omega arith in
      absurd (omega (arith, whole, none, pow_pos k))
]

pub and_clear : (n k : ℕ) → bit_at n k ≡ 0 → bit_and n (2 ^ k) ≡ 0
and_clear n k none = and_pow n k ∙ ap (λ b. b * 2 ^ k) none ∙ omega arith

pub bit_set : (n k : ℕ) → bit_and n (2 ^ k) ≢ 0 → bit_at n k ≡ 1
bit_set n k some = elim (by_bit (bit_at n k) (bit_at-lt n k)) [
  | inl none ↦ absurd (some (and_clear n k none))
  | inr is ↦ is
]

pub test_set : (n k : ℕ) → IsTrue (not (nat_eq (bit_and n (2 ^ k)) 0)) ↔ (bit_at n k ≡ 1)
test_set n k = (
  λ t. bit_set n k (λ none. let e = (Decides-eqb (bit_and n (2 ^ k)) 0).1 none in cc),
  λ one. grind (arith, nat_tests, and_pow n k, one, pow_pos k),
)

pub flips : (bits head f : ℕ) → f ≡ 1 → flipped_bits bits head f ≡ flipped_bits bits head 1
flips bits head f is = ap (flipped_bits bits head) is

pub flips_not : (bits head f : ℕ) → f ≡ 0 → flipped_bits bits head f ≡ bits
flips_not bits head f is = ap (flipped_bits bits head) is

pub moves : (head f g : ℕ) → f ≡ g → moved_head head f ≡ moved_head head g
moves head f g is = ap (moved_head head) is
