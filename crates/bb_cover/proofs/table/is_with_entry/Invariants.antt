use Rattle.std.proofs.Common.{◌≡◌, ℕ, ◌<◌}
use Rattle.bb_machine.specs.Machine.{entry_of, symbols_of}
use Rattle.laws_of_verdicts.specs.Closed.{with_entry}
use Rattle.bb_cover.proofs.table.is_with_entry.Given as goal

abbrev pub invariant-loop-row : goal.invariant-loop-row
invariant-loop-row l = (q : ℕ) → q < l.row → (s : ℕ) → s < symbols_of l.parent
    → entry_of l.child q s ≡ entry_of (with_entry l.parent l.state l.symbol l.entry) q s
