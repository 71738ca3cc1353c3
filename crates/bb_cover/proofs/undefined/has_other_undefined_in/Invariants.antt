use Rattle.std.proofs.Common.{ℕ, ◌<◌}
use Rattle.bb_cover.specs.UndefinedEntries.{IsOtherUndefined}
use Rattle.bb_cover.proofs.undefined.has_other_undefined_in.Given as goal

abbrev pub invariant-loop-symbol : goal.invariant-loop-symbol
invariant-loop-symbol l = (s : ℕ) → s < l.symbol → IsOtherUndefined l.machine l.undefined l.state s → ⊥
