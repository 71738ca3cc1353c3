use Rattle.std.proofs.Common.{ℕ, ◌<◌}
use Rattle.bb_machine.specs.Machine.{symbols_of}
use Rattle.bb_cover.specs.UndefinedEntries.{IsOtherUndefined}
use Rattle.bb_cover.proofs.undefined.has_other_undefined.Given as goal

abbrev pub invariant-loop-state : goal.invariant-loop-state
invariant-loop-state l = (q : ℕ) → q < l.state → (s : ℕ) → s < symbols_of l.machine
    → IsOtherUndefined l.machine l.undefined q s → ⊥
