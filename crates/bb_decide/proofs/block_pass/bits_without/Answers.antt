use Rattle.std.proofs.Common.{◌≡◌, ◌*◌, ◌%◌, ◌^◌, ◌<◌, ◌∙◌, ℕ, ap, arith}
use Rattle.std.specs.Prelude.{bit_xor}
use Rattle.std.specs.Int.{bit_at}
use Rattle.std.specs.Int.Bits.{xor_add_and}
use Rattle.std.proofs.Math.Nat.{pow-le-pow_right}
use Rattle.std.proofs.lemmas.Nat.{pow_pos}
use Rattle.std.proofs.lemmas.Nat.Bits.{and_pow, bit_at-lt, bit_at-pow_other, bit_at-pow_same, bit_at_xor}
use Rattle.bb_decide.proofs.block_pass.bits_without.Goals as goal

bit_is : (place : ℕ) → place < 64 → 1 * 2 ^ place % 2 ^ 64 ≡ 2 ^ place
bit_is place small =
    let f = pow-le-pow_right {n = 2} (omega arith) {i = place} {j = 63} (omega (arith, small)) in
    omega (arith, f)

pub returns-clause-fewer : goal.returns-clause-fewer
returns-clause-fewer c =
    let n = c.args.bits in
    let k = c.args.place in
    let is = ap (bit_xor n) (bit_is k c.requires.small) in
    let both = and_pow n k ∙ ap (λ b. b * 2 ^ k) c.requires.set in
    omega (arith, is, xor_add_and n (2 ^ k), both, pow_pos k)

pub returns-clause-cleared : goal.returns-clause-cleared
returns-clause-cleared c =
    let n = c.args.bits in
    let k = c.args.place in
    ap (λ m. bit_at (bit_xor n m) k) (bit_is k c.requires.small)
    ∙ omega (arith, bit_at_xor n (2 ^ k) k, bit_at-pow_same k, c.requires.set)

pub returns-clause-others : goal.returns-clause-others
returns-clause-others c i apart =
    let n = c.args.bits in
    let k = c.args.place in
    ap (λ m. bit_at (bit_xor n m) i) (bit_is k c.requires.small)
    ∙ omega (arith, bit_at_xor n (2 ^ k) i, bit_at-pow_other k i apart, bit_at-lt n i)
