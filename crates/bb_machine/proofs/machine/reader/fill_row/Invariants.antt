use Rattle.std.proofs.Common.{◌≡◌, ◌*◌, List, length, take, drop}
use Rattle.bb_machine.specs.declared.machine.TheConstants.{MAX_STATES, SLOTS, STRIDE}
use Rattle.bb_machine.specs.declared.entry.Entry.{Entry}
use Rattle.bb_machine.specs.Machine.{IsGroup, group_text}
use Rattle.bb_machine.specs.Rows.{entries_in, table_in}
use Rattle.bb_machine.specs.Column.{BeginsWith}
use Rattle.bb_machine.proofs.machine.reader.fill_row.Given as goal

-- the row's first entries are those of the group, and the rows before it are as they were
abbrev pub invariant-loop-symbol : goal.invariant-loop-symbol
invariant-loop-symbol l = record {
  count : length l.slots ≡ SLOTS;
  row : (g : List Entry) → IsGroup MAX_STATES l.symbols g → BeginsWith l.bytes (group_text g)
      → take l.symbol (drop (l.row * STRIDE) (entries_in l.slots)) ≡ take l.symbol g;
  before : table_in l.row l.symbols l.slots ≡ table_in l.row l.symbols l.initial.slots;
}
