use Rattle.std.proofs.Common.{◌≡◌, ◌+◌, ◌-◌, ◌*◌, List, drop}
use Rattle.bb_machine.specs.declared.entry.Entry.{Entry}
use Rattle.bb_machine.proofs.Checked.{IsTableSoFar}
use Rattle.bb_machine.proofs.machine.reader.is_table_by_entries.Given as goal

-- the bytes so far are those of the table's first groups
abbrev pub invariant-loop-row : goal.invariant-loop-row
invariant-loop-row l = record {
  groups : (gs : List (List Entry)) × IsTableSoFar l.states l.symbols l.row l.line gs;
  rest : l.rest ≡ drop (l.row * (3 * l.symbols + 1) - 1) l.line;
}
