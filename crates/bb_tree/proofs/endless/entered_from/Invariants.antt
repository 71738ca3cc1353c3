use Rattle.std.proofs.Common.{ℕ}
use Rattle.bb_tree.specs.inside.Walk.{IsEntered, IsIn}
use Rattle.bb_tree.proofs.endless.entered_from.Given as goal

abbrev pub invariant-loop-state : goal.invariant-loop-state
invariant-loop-state l = (state : ℕ) → IsIn l.entered state → IsEntered l.machine l.dir l.set state
