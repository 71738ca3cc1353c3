use Rattle.std.proofs.Common.{◌-◌}
use Rattle.bb_sim.specs.Runner.{steps_of}
use Rattle.bb_registers.specs.Blocks.{GoesOn}
use Rattle.bb_registers.proofs.blocks.find_block.Given as goal

-- the runner has gone on from where it stood first
abbrev pub invariant-loop-moved : goal.invariant-loop-moved
invariant-loop-moved g l =
    GoesOn l.machine l.limits l.fn.runner l.here (g.T.Tape.view l.fn.tape) (g.T.Tape.view l.tape) l.fn.meter l.spent

abbrev pub decreases-loop-moved : goal.decreases-loop-moved
decreases-loop-moved g l = l.limits.steps - steps_of l.here
