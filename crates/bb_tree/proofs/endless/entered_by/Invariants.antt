use Rattle.std.proofs.Common.{ℕ}
use Rattle.bb_tree.specs.inside.Walk.{IsEnteredFrom, IsIn}
use Rattle.bb_tree.proofs.endless.entered_by.Given as goal

abbrev pub invariant-loop-symbol : goal.invariant-loop-symbol
invariant-loop-symbol l = (state : ℕ) → IsIn l.entered state → IsEnteredFrom l.machine l.dir l.from state
