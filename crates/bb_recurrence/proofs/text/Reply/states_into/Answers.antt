use Rattle.std.proofs.Common.{◌≡◌, arith, length}
use Rattle.bb_recurrence.proofs.Writing.{appends_none, appends_state}
use Rattle.bb_recurrence.proofs.text.Reply.states_into.Goals as goal

pub loop-state-init : goal.loop-state-init
loop-state-init c = record { written = appends_none _ _; short = omega arith }

pub use_into-requires : goal.use_into-requires
use_into-requires c =
    let machine = c.states-state-end.ensures.machine in
    omega (
      arith,
      machine.states,
      c.states-state-end.ensures.value,
      c.loop-state-test.true,
      c.loop-state.invariant.short,
      c.requires.room,
    )

pub loop-state-preserved : goal.loop-state-preserved
loop-state-preserved c = record {
  written = appends_state _ _ _ _ _ _ c.loop-state.invariant.written c.last_use.ensures
      c.use_into.ensures.appended;
  short = omega (arith, c.loop-state.invariant.short, c.use_into.ensures.short);
}

pub returns : goal.returns
returns c =
    let machine = c.states-state-end.ensures.machine in
    let end : c.loop-state.state ≡ length c.args.self.now.machine.now =
    omega (arith, c.loop-state-test.false, c.loop-state.auto.state-end, c.states-state-end.ensures.value) in
    record {
      uses = rw end at c.loop-state.invariant.written;
      short = omega (arith, machine.states, end, c.loop-state.invariant.short);
    }
