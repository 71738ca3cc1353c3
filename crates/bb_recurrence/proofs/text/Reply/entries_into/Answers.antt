use Rattle.std.proofs.Common.{◌≡◌, arith, length}
use Rattle.bb_machine.specs.Machine.{symbols_of}
use Rattle.bb_recurrence.proofs.Writing.{appends_none, appends_row}
use Rattle.bb_recurrence.proofs.text.Reply.entries_into.Goals as goal

pub loop-state-init : goal.loop-state-init
loop-state-init c = record { written = appends_none _ _; short = omega arith }

pub row_into-requires-clause-room : goal.row_into-requires-clause-room
row_into-requires-clause-room c =
    let machine = c.states-state-end.ensures.machine in
    omega (
      arith,
      machine.states,
      c.states-state-end.ensures.value,
      c.loop-state-test.true,
      c.loop-state.invariant.short,
      c.requires.room,
    )

pub loop-state-preserved : goal.loop-state-preserved
loop-state-preserved c = record {
  written = appends_row _ (symbols_of c.args.self.now.machine.now) c.loop-state.state _ _ _
      c.loop-state.invariant.written c.row_into.ensures.uses;
  short = omega (arith, c.loop-state.invariant.short, c.row_into.ensures.short);
}

pub returns : goal.returns
returns c =
    let end : c.loop-state.state ≡ length c.args.self.now.machine.now =
    omega (arith, c.loop-state-test.false, c.loop-state.auto.state-end, c.states-state-end.ensures.value) in
    let machine = c.states-state-end.ensures.machine in
    record {
      uses = rw end at c.loop-state.invariant.written;
      short = omega (arith, machine.states, end, c.loop-state.invariant.short);
    }
