use Rattle.std.proofs.Common.{List}
use Rattle.bb_machine.specs.declared.entry.Entry.{Entry}
use Rattle.bb_machine.proofs.Checked.{IsGroupSoFar}
use Rattle.bb_machine.proofs.machine.reader.is_group.Given as goal

-- the bytes so far are those of the group's first entries
abbrev pub invariant-loop-symbol : goal.invariant-loop-symbol
invariant-loop-symbol l = (g : List Entry) × IsGroupSoFar l.states l.symbols l.symbol l.bytes g
