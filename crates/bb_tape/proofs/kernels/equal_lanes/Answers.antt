use Rattle.std.proofs.lemmas.Simd.{length-chunk}
use lib.Lanes.{chunk}
use Rattle.bb_tape.proofs.Slices.{lanes_equal, equal_lanes}
use Rattle.bb_tape.proofs.kernels.equal_lanes.Goals as goal

pub returns : goal.returns
returns c =
    let a = length-chunk c.args.at 32 c.args.a.now c.requires.a in
    let b = length-chunk c.args.at 32 c.args.b.now c.requires.b in (
      lanes_equal (chunk c.args.at 32 c.args.a.now) (chunk c.args.at 32 c.args.b.now) a b,
      equal_lanes (chunk c.args.at 32 c.args.a.now) (chunk c.args.at 32 c.args.b.now) a b,
    )
