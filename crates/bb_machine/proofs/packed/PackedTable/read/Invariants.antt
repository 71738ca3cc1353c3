use Rattle.std.proofs.Common.{◌≡◌, ◌*◌, ◌<◌, ◌≤◌, ◌^◌, ◌-◌}
use Rattle.bb_machine.specs.Machine.{Table, text}
use Rattle.bb_machine.specs.Packed.{ArePackedFrom}
use Rattle.bb_machine.specs.Rows.{IsTable}
use Rattle.bb_machine.proofs.packed.PackedTable.read.Given as goal

-- the entries of the states that were passed are packed
abbrev pub invariant-loop-row : goal.invariant-loop-row
invariant-loop-row l = record {
  few : l.row ≤ l.states;
  zero : (gs : Table) → IsTable l.states 2 gs → text gs ≡ l.line → ArePackedFrom gs 0 l.row l.table.zero;
  one : (gs : Table) → IsTable l.states 2 gs → text gs ≡ l.line → ArePackedFrom gs 1 l.row l.table.one;
  small_zero : l.table.zero < 2 ^ (9 * (l.states - l.row));
  small_one : l.table.one < 2 ^ (9 * (l.states - l.row));
}
