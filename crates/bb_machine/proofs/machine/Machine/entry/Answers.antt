use Rattle.std.proofs.Common.{◌∙◌, sym}
use Rattle.bb_machine.specs.declared.machine.TheConstants.{MAX_STATES, MAX_SYMBOLS}
use Rattle.bb_machine.proofs.Stored.{small_entry, large_entry}
use Rattle.bb_machine.proofs.Tables.{entry_named}
use Rattle.bb_machine.proofs.machine.Machine.entry.Goals as goal

pub returns-then-is_small_table-clause-value : goal.returns-then-is_small_table-clause-value
returns-then-is_small_table-clause-value c =
    let fields = c.self.inside in
    small_entry fields.state_count fields.symbol_count fields.packed fields.slots c.args.self.now c.self.view_is
    c.self.invariant (sym c.is_small_table.ensures ∙ c.if-is_small_table.true) (λ e. e) c.args.state c.args.symbol
    c.entry_at.result c.requires.in_states c.requires.in_symbols c.entry_at.ensures.zero c.entry_at.ensures.one

pub returns-then-is_small_table-clause-named : goal.returns-then-is_small_table-clause-named
returns-then-is_small_table-clause-named c =
    rw (returns-then-is_small_table-clause-value c)
    (entry_named MAX_STATES MAX_SYMBOLS c.args.self.now c.args.state c.args.symbol
    (rw (← c.self.view_is) c.self.invariant.table.machine) c.requires.in_states c.requires.in_symbols)

pub returns-clause-value : goal.returns-clause-value
returns-clause-value c =
    let fields = c.self.inside in
    c.entry.ensures
    ∙ large_entry fields.state_count fields.symbol_count fields.packed fields.slots c.args.self.now c.self.view_is
    c.self.invariant (sym c.is_small_table.ensures ∙ c.if-is_small_table.false) c.args.state c.args.symbol _
    c.requires.in_states c.requires.in_symbols

pub returns-clause-named : goal.returns-clause-named
returns-clause-named c =
    rw (returns-clause-value c)
    (entry_named MAX_STATES MAX_SYMBOLS c.args.self.now c.args.state c.args.symbol
    (rw (← c.self.view_is) c.self.invariant.table.machine) c.requires.in_states c.requires.in_symbols)
