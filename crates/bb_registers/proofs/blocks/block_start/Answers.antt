use Rattle.std.proofs.Common.{◌≡◌, ◌-ℤ◌, ℤ, arith, inl, inr, of_z, to_z, w64}
use Rattle.std.proofs.lemmas.Int.{ints}
use Rattle.bb_sim.specs.Runner.{position_of}
use Rattle.bb_registers.proofs.blocks.block_start.Goals as goal
use Rattle.bb_registers.proofs.blocks.block_start.Goals.{then-from-ge0-via-then-from-ge0, then-from-ge0-via-else-from-ge0+then-from-le0}

pub returns-then-from-ge0 : goal.returns-then-from-ge0
returns-then-from-ge0 c =
    let r = c.requires in
    let from : ℤ = to_z w64 (of_z w64 (to_z w64 (of_z w64 c.position-2.result) -ℤ to_z w64 (of_z w64 c.args.before))) in
    let is : from ≡ position_of c.args.runner.now -ℤ c.args.before =
    omega (arith, ints, c.position-2.ensures, r.low, r.high, r.some, r.few) in
    record {
      low = omega (arith, ints, c.if-from-low.false, c.low.ensures, is);
      high = omega (arith, ints, c.if-high-from.false, c.high.ensures, is);
      side = elim c.then-from-ge0.branch [
        | then-from-ge0-via-then-from-ge0 w ↦ inl (omega (arith, ints, w.if-from-ge0.true, is))
        | then-from-ge0-via-else-from-ge0+then-from-le0 w ↦ inr (omega (arith, ints, w.if-from-le0.true, is))
      ];
      here = omega (arith, ints, is, r.some);
      within = omega (arith, ints, is, r.few);
    }
