use Rattle.std.proofs.Common.{◌≡◌, ◌≤◌, [], get_or, take}
use Rattle.bb_cover.specs.UndefinedEntries.{undefined_entries_in}
use Rattle.bb_cover.proofs.table.count_undefined_entries_in.Given as goal

abbrev pub invariant-loop-symbol : goal.invariant-loop-symbol
invariant-loop-symbol l = record {
  count : l.count ≡ undefined_entries_in (take l.symbol (get_or l.machine l.state []));
  few : l.count ≤ l.symbol;
}
