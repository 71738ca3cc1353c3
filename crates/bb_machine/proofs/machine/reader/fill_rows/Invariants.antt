use Rattle.std.proofs.Common.{◌≡◌, List, take}
use Rattle.bb_machine.specs.declared.entry.Entry.{Entry}
use Rattle.bb_machine.specs.Machine.{text}
use Rattle.bb_machine.specs.Rows.{table_in, IsTable}
use Rattle.bb_machine.proofs.machine.reader.fill_rows.Given as goal

-- the rows so far are the machine's groups
abbrev pub invariant-loop-row : goal.invariant-loop-row
invariant-loop-row l = (gs : List (List Entry)) → IsTable l.states l.symbols gs → text gs ≡ l.line
    → table_in l.row l.symbols l.slots ≡ take l.row gs
