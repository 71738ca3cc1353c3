use Rattle.std.proofs.Common.{◌≡◌, ◌≤◌, List}
use Rattle.bb_machine.specs.declared.entry.Entry.{Entry}
use Rattle.bb_machine.specs.Machine.{IsMachine, symbols_of, text}
use Rattle.bb_machine.proofs.machine.reader.symbols_at_first.Given as goal

-- a machine whose text the line is has no fewer symbols
abbrev pub invariant-loop-symbols : goal.invariant-loop-symbols
invariant-loop-symbols l =
    (gs : List (List Entry)) → IsMachine gs → text gs ≡ l.line → l.symbols ≤ symbols_of gs
