use Rattle.std.proofs.Common.{◌≡◌, ℕ, ◌∙◌, ap, sym, bit_and, min, inl, inr, arith, rules}
use Rattle.std.specs.Int.{bit_at}
use Rattle.std.proofs.lemmas.Bool.{cases_eq}
use Rattle.std.proofs.lemmas.Nat.Bits.{bit_at_and, bit_at-lt, same_from_bits}
use Rattle.bb_machine.proofs.machine.reader.has_all.Goals as goal

covered : (mask places k : ℕ) → bit_and mask places ≡ places → bit_at places k ≡ 1 → bit_at mask k ≡ 1
covered mask places k is set =
    let both : min (bit_at mask k) (bit_at places k) ≡ bit_at places k =
    sym (bit_at_and mask places k) ∙ ap (λ n. bit_at n k) is in
    omega (arith, both, set, bit_at-lt mask k)

covers : (mask places : ℕ) → ((k : ℕ) → bit_at places k ≡ 1 → bit_at mask k ≡ 1)
    → bit_and mask places ≡ places
covers mask places all = same_from_bits (bit_and mask places) places (λ k. bit_at_and mask places k ∙ least k)
  where
    least : (k : ℕ) → min (bit_at mask k) (bit_at places k) ≡ bit_at places k
    least k =
        elim (cases_eq (bit_at places k) 1) [
          | inl set ↦ omega (arith, set, all k set)
          | inr unset ↦ omega (arith, unset, bit_at-lt places k)
        ]

pub returns : goal.returns
returns c = (
  λ is k set. let same : bit_and c.args.mask c.args.places ≡ c.args.places = search rules in
      covered c.args.mask c.args.places k same set,
  λ all. let same = covers c.args.mask c.args.places all in search rules,
)
