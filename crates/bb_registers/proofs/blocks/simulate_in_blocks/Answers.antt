use Rattle.bb_registers.proofs.InBlocks.{goes_on_again}
use Rattle.bb_registers.proofs.blocks.simulate_in_blocks.Goals as goal

pub returns-in_default-clause-counted : goal.returns-in_default-clause-counted
returns-in_default-clause-counted g c begun counts =
    let still = goes_on_again c.loop-from.invariant c.find_block.ensures.goes in
    c.simulate_from.ensures.counted begun (still.counts begun counts)

pub returns-in_default-clause-cut : goal.returns-in_default-clause-cut
returns-in_default-clause-cut g c begun counts =
    let still = goes_on_again c.loop-from.invariant c.find_block.ensures.goes in
    c.simulate_from.ensures.cut begun (still.counts begun counts)

pub returns-in_default-clause-within : goal.returns-in_default-clause-within
returns-in_default-clause-within g c begun counts =
    let still = goes_on_again c.loop-from.invariant c.find_block.ensures.goes in
    c.simulate_from.ensures.within begun (still.counts begun counts)

pub run_block-requires-clause-counted : goal.run_block-requires-clause-counted
run_block-requires-clause-counted g c =
    let still = goes_on_again c.loop-from.invariant c.find_block.ensures.goes in
    let counted = c.requires.counted in
    (counted.0, still.counts counted.0 counted.1, counted.2)

pub loop-from-preserved : goal.loop-from-preserved
loop-from-preserved g c =
    goes_on_again (goes_on_again c.loop-from.invariant c.in-Some.ensures.goes) c.run_block.ensures
