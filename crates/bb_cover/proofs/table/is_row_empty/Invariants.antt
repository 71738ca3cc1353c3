use Rattle.std.proofs.Common.{◌≡◌, ℕ, ◌<◌}
use Rattle.bb_machine.specs.declared.entry.Entry.TheVariants.{Undefined}
use Rattle.bb_machine.specs.Machine.{entry_of}
use Rattle.bb_cover.proofs.table.is_row_empty.Given as goal

abbrev pub invariant-loop-symbol : goal.invariant-loop-symbol
invariant-loop-symbol l = (s : ℕ) → s < l.symbol → entry_of l.machine l.state s ≡ Undefined
