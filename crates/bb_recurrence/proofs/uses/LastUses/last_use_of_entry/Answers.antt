use Rattle.std.proofs.Common.{arith}
use Rattle.bb_recurrence.proofs.EntryUses.{use_is}
use Rattle.bb_recurrence.proofs.uses.LastUses.last_use_of_entry.Goals as goal

pub place_of-requires-clause-state : goal.place_of-requires-clause-state
place_of-requires-clause-state c =
    let machine = c.show_machine.ensures.machine in omega (arith, machine.states, c.requires.state)

pub place_of-requires-clause-symbol : goal.place_of-requires-clause-symbol
place_of-requires-clause-symbol c =
    let machine = c.show_machine.ensures.machine in omega (arith, machine.symbols, c.requires.symbol)

pub returns : goal.returns
returns c =
    let machine = c.show_machine.ensures.machine in
    let seen = c.requires.seen.seen c.args.state c.args.symbol (omega (arith, machine.states, c.requires.state))
    (omega (arith, machine.symbols, c.requires.symbol)) in
    use_is _ _ _ _ _ _ c.requires.seen seen (rw c.place_of.ensures at c.use_before.ensures)
