use Rattle.std.proofs.Common.{◌∙◌, arith, get_or-set_other, get_or-set_same, inl, inr}
use Rattle.std.proofs.Common.{bit_and, ◌/◌, ◌^◌, ℕ}
use Rattle.std.proofs.lemmas.Bool.{cases_eq}
use Rattle.std.proofs.lemmas.List.{length-set}
use Rattle.std.proofs.lemmas.Nat.Bits.{shr_and_one}
use Rattle.bb_tape.proofs.kernels.spread.Goals as goal

pub loop-place-preserved : goal.loop-place-preserved
loop-place-preserved c =
    let here = c.loop-place.invariant in
    let at = c.loop-place.place in
    let bit : ℕ = bit_and (c.args.bits / 2 ^ at) 1 in
    let room = c.loop-place-test.true in
    record {
      bits = λ k h. elim (cases_eq k at) [
        | inl same ↦ rw same (
            get_or-set_same c.loop-place.a at bit 0 (omega (arith, here.length, room)) ∙ shr_and_one c.args.bits at)
        | inr apart ↦
            get_or-set_other c.loop-place.a at k bit 0 apart ∙ here.bits k (omega (arith, h, apart))
      ];
      length = length-set c.loop-place.a at bit ∙ here.length;
    }
