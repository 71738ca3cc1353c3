use Rattle.std.proofs.Common.{◌≡◌}
use Rattle.bb_machine.specs.Machine.{IsMachine}
use Rattle.laws_of_verdicts.specs.LineOf.{IsOnWay}
use Rattle.bb_cover.specs.Line.{change_of}
use Rattle.bb_cover.specs.UndefinedEntries.{undefined_entries_of}
use Rattle.bb_cover.proofs.line.line_of.Given as goal

abbrev pub invariant-loop-halted : goal.invariant-loop-halted
invariant-loop-halted g l = record {
  is_machine : IsMachine l.machine;
  on_way : IsOnWay (change_of l.way.change) l.limits l.way.machine l.machine;
  limit : (g.T.Tape.view l.tape).limit ≡ l.limits.cells;
}

abbrev pub decreases-loop-halted : goal.decreases-loop-halted
decreases-loop-halted g l = undefined_entries_of l.way.machine
