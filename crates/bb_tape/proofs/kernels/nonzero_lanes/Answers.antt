use Rattle.std.proofs.Common.{◌∙◌, ◌<◌, ◌^◌, ap, arith, map, min, subst, sym, w8}
use Rattle.std.specs.Int.{bit_at}
use Rattle.std.proofs.lemmas.Simd.{bitmask_splat, get_or-chunk, length-chunk}
use lib.Lanes.{chunk, mask_l}
use Rattle.bb_tape.proofs.Lanes.{lane_bit, lanes_small}
use Rattle.bb_tape.proofs.Slices.{differ}
use Rattle.bb_tape.proofs.kernels.nonzero_lanes.Goals as goal

pub returns-clause-bits : goal.returns-clause-bits
returns-clause-bits c k h =
    let v = chunk c.args.at 32 c.args.a.now in
    let long = length-chunk c.args.at 32 c.args.a.now c.requires in
    ap (λ n. bit_at n k) (bitmask_splat w8 differ v 32 0 long (omega arith))
    ∙ lane_bit v k (omega (arith, long, h)) ∙ ap (min 1) (get_or-chunk c.args.at 32 c.args.a.now k 0 h)

pub returns-clause-small : goal.returns-clause-small
returns-clause-small c =
    let v = chunk c.args.at 32 c.args.a.now in
    let long = length-chunk c.args.at 32 c.args.a.now c.requires in
    subst (λ n. n < 2 ^ 32) (sym (bitmask_splat w8 differ v 32 0 long (omega arith)))
    (subst (λ n. mask_l (map (λ x. differ x 0) v) < 2 ^ n) long (lanes_small v))
