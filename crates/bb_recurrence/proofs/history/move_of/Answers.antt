use Rattle.std.proofs.Common.{sym, ◌∙◌}
use Rattle.bb_recurrence.proofs.Moves.{place_moves}
use Rattle.bb_recurrence.proofs.history.move_of.Goals as goal

pub returns-in-L-clause-moves : goal.returns-in-L-clause-moves
returns-in-L-clause-moves c n never uses =
    rw (sym c.entry.ensures.value ∙ c.in-Go.is, c.in-L.is) at (place_moves c.args.machine.now n c.args.place uses never)

pub returns-in-R-clause-moves : goal.returns-in-R-clause-moves
returns-in-R-clause-moves c n never uses =
    rw (sym c.entry.ensures.value ∙ c.in-Go.is, c.in-R.is) at (place_moves c.args.machine.now n c.args.place uses never)

pub returns-in-Undefined-clause-moves : goal.returns-in-Undefined-clause-moves
returns-in-Undefined-clause-moves c n never uses =
    rw (sym c.entry.ensures.value ∙ c.in-Undefined.is) at (place_moves c.args.machine.now n c.args.place uses never)
