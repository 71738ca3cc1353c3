use Rattle.std.proofs.Common.{ap, ◌∙◌, arith, w8}
use lib.Count.{ones}
use lib.Lanes.{chunk}
use Rattle.std.proofs.lemmas.Simd.{length-chunk, bitmask_splat, ones-mask_l}
use Rattle.bb_tape.proofs.Slices.{differ}
use Rattle.bb_tape.proofs.kernels.count_lanes.Goals as goal

pub returns : goal.returns
returns c =
    let v = chunk c.args.at 32 c.args.a.now in
    ap ones (bitmask_splat w8 differ v 32 0 (length-chunk c.args.at 32 c.args.a.now c.requires) (omega arith))
    ∙ ones-mask_l (λ x. differ x 0) v
