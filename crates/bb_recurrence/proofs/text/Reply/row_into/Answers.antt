use Rattle.std.proofs.Common.{◌≡◌, arith}
use Rattle.bb_machine.specs.Machine.{symbols_of}
use Rattle.bb_recurrence.proofs.Writing.{appends_entry, appends_none}
use Rattle.bb_recurrence.proofs.text.Reply.row_into.Goals as goal

pub loop-symbol-init : goal.loop-symbol-init
loop-symbol-init c = record { written = appends_none _ _; short = omega arith }

pub use_into-requires : goal.use_into-requires
use_into-requires c =
    let machine = c.symbols-symbol-end.ensures.machine in
    omega (
      arith,
      machine.symbols,
      c.symbols-symbol-end.ensures.value,
      c.loop-symbol-test.true,
      c.loop-symbol.invariant.short,
      c.requires.room,
    )

pub loop-symbol-preserved : goal.loop-symbol-preserved
loop-symbol-preserved c = record {
  written = appends_entry _ _ _ _ _ _ _ c.loop-symbol.invariant.written c.last_use_of_entry.ensures
      c.use_into.ensures.appended;
  short = omega (arith, c.loop-symbol.invariant.short, c.use_into.ensures.short);
}

pub returns : goal.returns
returns c =
    let machine = c.symbols-symbol-end.ensures.machine in
    let end : c.loop-symbol.symbol ≡ symbols_of c.args.self.now.machine.now =
    omega (arith, c.loop-symbol-test.false, c.loop-symbol.auto.symbol-end, c.symbols-symbol-end.ensures.value) in
    record {
      uses = rw end at c.loop-symbol.invariant.written;
      short = omega (arith, machine.symbols, end, c.loop-symbol.invariant.short);
    }
