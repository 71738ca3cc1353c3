use Rattle.std.proofs.Common.{sym}
use Rattle.bb_machine.specs.declared.machine.TheConstants.{MAX_STATES, MAX_SYMBOLS}
use Rattle.bb_machine.proofs.Lengths.{text_short}
use Rattle.bb_machine.proofs.machine.Machine.states.Goals as goal

pub returns-clause-value : goal.returns-clause-value
returns-clause-value c = rw (← c.self.view_is) (sym c.self.invariant.table.states_is)

pub returns-clause-short : goal.returns-clause-short
returns-clause-short c =
    text_short MAX_STATES MAX_SYMBOLS c.args.self.now (rw (← c.self.view_is) c.self.invariant.table.machine)
