use Rattle.std.proofs.Common.{◌*◌, arith}
use Rattle.bb_tape.proofs.Slices.{chunk_of_equal, front_more}
use Rattle.bb_tape.proofs.kernels.equal_by_lanes.Goals as goal

pub returns-then-not-equal_lanes : goal.returns-then-not-equal_lanes
returns-then-not-equal_lanes c = (
  λ no. cc,
  λ e.
      c.if-not-equal_lanes.ensures.1
      (chunk_of_equal c.args.a.now c.args.b.now (c.args.whole * 32) (c.loop-i.i * 32) (omega arith)
      c.requires.a c.requires.b e),
)

pub loop-i-preserved : goal.loop-i-preserved
loop-i-preserved c =
    front_more c.args.a.now c.args.b.now (c.loop-i.i * 32) _ (omega arith) c.loop-i.invariant
    (c.equal_lanes.ensures.0 c.if-not-equal_lanes.false)
