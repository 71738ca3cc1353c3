use Rattle.bb_tape.specs.TapeView.{AgreesFrom}
use Rattle.bb_tape.specs.Entries.{content_of}
use Rattle.bb_tape.proofs.map.MapTapeTape.agrees.Given as goal

-- all cells so far agree
abbrev pub invariant-loop-k : goal.invariant-loop-k
invariant-loop-k g l =
    AgreesFrom (content_of l.self.cells.entries) l.from (content_of l.other.cells.entries) l.other_from l.k
