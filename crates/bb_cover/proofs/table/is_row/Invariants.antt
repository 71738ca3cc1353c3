use Rattle.std.proofs.Common.{◌≡◌, ℕ, ◌<◌}
use Rattle.bb_machine.specs.Machine.{entry_of}
use Rattle.laws_of_verdicts.specs.Closed.{with_entry}
use Rattle.bb_cover.proofs.table.is_row.Given as goal

abbrev pub invariant-loop-column : goal.invariant-loop-column
invariant-loop-column l = (s : ℕ) → s < l.column
    → entry_of l.child l.row s ≡ entry_of (with_entry l.parent l.state l.symbol l.entry) l.row s
