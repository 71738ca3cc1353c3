use Rattle.std.proofs.Common.{◌≡◌, ◌∙◌, ◌+◌, ◌-◌, ap, arith, inl, inr, min, slice_index}
use Rattle.std.proofs.lemmas.Bool.{cases_lt}
use Rattle.std.proofs.lemmas.Nat.Bits.{bit_at_cat_high, bit_at_cat_low}
use Rattle.bb_tape.proofs.kernels.nonzero_bits.Goals as goal

pub returns : goal.returns
returns c k h = elim (cases_lt k 32) [
  | inl low ↦
      bit_at_cat_low c.nonzero_lanes.result 32 c.nonzero_lanes-2.result k low ∙ c.nonzero_lanes-2.ensures.bits k low
  | inr high ↦
      let there : (c.args.at + 32) + (k - 32) ≡ c.args.at + k = omega (arith, high) in
      bit_at_cat_high c.nonzero_lanes.result 32 c.nonzero_lanes-2.result k c.nonzero_lanes-2.ensures.small (omega (arith, high))
      ∙ c.nonzero_lanes.ensures.bits (k - 32) (omega (arith, h, high))
      ∙ ap (λ i. min 1 (slice_index c.args.a.now i)) there
]
