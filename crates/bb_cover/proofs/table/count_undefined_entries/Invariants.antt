use Rattle.std.proofs.Common.{◌≡◌, ◌*◌, ◌≤◌, take}
use Rattle.bb_cover.specs.UndefinedEntries.{undefined_entries_of}
use Rattle.bb_cover.proofs.table.count_undefined_entries.Given as goal

abbrev pub invariant-loop-state : goal.invariant-loop-state
invariant-loop-state l = record {
  count : l.count ≡ undefined_entries_of (take l.state l.machine);
  few : l.count ≤ 10 * l.state;
}
