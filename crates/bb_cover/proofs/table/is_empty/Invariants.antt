use Rattle.std.proofs.Common.{◌≡◌, ℕ, ◌<◌}
use Rattle.bb_machine.specs.declared.entry.Entry.TheVariants.{Undefined}
use Rattle.bb_machine.specs.Machine.{entry_of, symbols_of}
use Rattle.bb_cover.proofs.table.is_empty.Given as goal

abbrev pub invariant-loop-state : goal.invariant-loop-state
invariant-loop-state l = (q : ℕ) → q < l.state → (s : ℕ) → s < symbols_of l.machine
    → entry_of l.machine q s ≡ Undefined
