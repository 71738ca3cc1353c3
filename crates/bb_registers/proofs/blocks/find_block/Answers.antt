use Rattle.std.proofs.Common.{arith}
use Rattle.std.proofs.lemmas.Int.{ints}
use Rattle.bb_registers.specs.Blocks.{GoesOn}
use Rattle.bb_registers.proofs.InBlocks.{goes_on_again, goes_on_next}
use Rattle.bb_registers.proofs.blocks.find_block.Given as given
use Rattle.bb_registers.proofs.blocks.find_block.Goals as goal
use Rattle.bb_registers.proofs.blocks.find_block.Goals.{In-Stepped}

-- the step was made
next : (g : given.Over) (c : In-Stepped g)
    → GoesOn c.args.machine.now c.args.limits.now c.args.runner.now c.advance.new.self
    (g.T.Tape.view c.args.tape.now) (g.T.Tape.view c.advance.new.tape) c.args.meter.now c.advance.new.meter
next g c =
    let call = c.in-Ok.ensures in
    goes_on_again c.loop-moved.invariant
    (goes_on_next c.in-Ok.moved c.in-Stepped.is call.stands call.limit call.reaches call.moves)

pub loop-moved-preserved : goal.loop-moved-preserved
loop-moved-preserved g c = next g (goal.at.loop-moved-preserved g c).In-Stepped

pub returns-in-Some-clause-goes : goal.returns-in-Some-clause-goes
returns-in-Some-clause-goes g c = next g (goal.at.returns-in-Some-clause-goes g c).In-Stepped

-- the head is next to the window
pub block_start-requires-clause-low : goal.block_start-requires-clause-low
block_start-requires-clause-low g c =
    let sound = g.met.T.Tape.sound c.advance.new.tape in
    let near = (rw c.in-Stepped.is at c.in-Ok.ensures.reaches).1 in
    omega (arith, ints, near.0, sound.to_zero, sound.within, sound.limited)

pub block_start-requires-clause-high : goal.block_start-requires-clause-high
block_start-requires-clause-high g c =
    let sound = g.met.T.Tape.sound c.advance.new.tape in
    let near = (rw c.in-Stepped.is at c.in-Ok.ensures.reaches).1 in
    omega (arith, ints, near.1, sound.from_zero, sound.within, sound.limited)
