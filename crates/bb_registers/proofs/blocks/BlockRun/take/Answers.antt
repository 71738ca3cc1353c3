use Rattle.std.proofs.Common.{◌≡◌, ◌*◌, ◌<◌, ◌%◌, ◌^◌, ◌-ℤ◌, ℤ, arith, of_z, pos, to_z, w64}
use Rattle.std.specs.Prelude.{unsigned_abs}
use Rattle.std.proofs.lemmas.Int.{ints, to_z-of_z}
use Rattle.bb_tape.proofs.Facts.{abs_is}
use Rattle.bb_sim.specs.Runner.{position_of}
use Rattle.bb_registers.proofs.InBlocks.{run_taken}
use Rattle.bb_registers.proofs.Moving.{pow_fits}
use Rattle.bb_registers.proofs.blocks.BlockRun.take.Goals as goal

pub returns-clause-run : goal.returns-clause-run
returns-clause-run g c =
    let sound = g.met.T.Tape.sound c.args.tape.now in
    let block = c.requires.block in
    let stands = c.requires.stands in
    let from = to_z-of_z w64 _ c.ranges.from in
    let before : ℤ = to_z w64 (of_z w64 (to_z w64 (of_z w64 c.position.result) -ℤ to_z w64 (of_z w64 c.args.from))) in
    let place = unsigned_abs before in
    let e : before ≡ position_of c.args.runner.now -ℤ c.args.from =
    omega (
      arith,
      ints,
      c.position.ensures,
      block.low,
      block.high,
      block.here,
      block.within,
      stands.window_low,
      stands.window_high,
      sound.from_zero,
      sound.to_zero,
      sound.within,
      sound.limited,
    ) in
    let is : pos place ≡ before = abs_is before (omega (arith, ints, e, block.here)) in
    let within : place < 64 = omega (arith, ints, is, e, block.within) in
    let head : 1 * 2 ^ place % 2 ^ 64 ≡ 2 ^ place = omega (arith, pow_fits place within) in
    let named = rw c.requires.state at stands.state_named in
    run_taken _ _ c.args.from _ c.args.runner.now _ c.args.state place c.requires.symbols stands sound c.requires.limit
    block c.requires.few c.steps.ensures c.requires.state (omega (arith, c.from.ensures))
    (omega (arith, named, c.requires.states)) (rw from at c.block.ensures) head (omega (arith, ints, is, e))
