use Rattle.std.proofs.Common.{◌-◌}
use Rattle.bb_sim.specs.Runner.{steps_of}
use Rattle.bb_registers.specs.Blocks.{GoesOn}
use Rattle.bb_registers.proofs.blocks.simulate_in_blocks.Given as goal

-- the runner has gone on from where it stood first
abbrev pub invariant-loop-from : goal.invariant-loop-from
invariant-loop-from g l =
    GoesOn l.machine l.limits l.fn.runner l.runner (g.T.Tape.view l.fn.tape) (g.T.Tape.view l.tape) l.fn.meter l.meter

abbrev pub decreases-loop-from : goal.decreases-loop-from
decreases-loop-from g l = l.limits.steps - steps_of l.runner
