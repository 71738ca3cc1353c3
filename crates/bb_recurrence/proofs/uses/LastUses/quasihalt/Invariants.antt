use Rattle.bb_recurrence.proofs.Quasihalts.{IsGreatestUse}
use Rattle.bb_recurrence.proofs.uses.LastUses.quasihalt.Given as goal

-- the last uses of the first states are taken in
abbrev pub invariant-loop-state : goal.invariant-loop-state
invariant-loop-state l = IsGreatestUse l.machine l.state l.steps
