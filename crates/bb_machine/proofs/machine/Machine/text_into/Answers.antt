use Rattle.std.proofs.Common.{length, take, rules, arith, ap}
use Rattle.std.proofs.lemmas.List.{length-append}
use Rattle.bb_machine.specs.declared.machine.TheConstants.{MAX_STATES, MAX_SYMBOLS}
use Rattle.bb_machine.specs.Machine.{text}
use Rattle.bb_machine.proofs.Lengths.{text_room, text_room_first}
use Rattle.bb_machine.proofs.machine.Machine.text_into.Goals as goal

pub group_into-requires : goal.group_into-requires
group_into-requires g c =
    let machine = c.states-states.ensures.machine in (
      search rules,
      (
        machine.some_state,
        omega (arith, c.requires, text_room_first MAX_STATES MAX_SYMBOLS c.args.self.now machine),
      ),
    )

pub push-requires : goal.push-requires
push-requires g c =
    let machine = c.states-states.ensures.machine in
    let left =
    text_room MAX_STATES MAX_SYMBOLS c.args.self.now c.loop-state.state machine (omega arith)
    (omega arith) in (
      search rules,
      omega (
        arith,
        c.requires,
        left,
        ap length c.loop-state.invariant,
        length-append c.args.out.now.items (text (take c.loop-state.state c.args.self.now)),
      ),
    )

pub group_into-requires-in-loop-state : goal.group_into-requires-in-loop-state
group_into-requires-in-loop-state g c =
    let machine = c.states-states.ensures.machine in
    let left =
    text_room MAX_STATES MAX_SYMBOLS c.args.self.now c.loop-state.state machine (omega arith)
    (omega arith) in (
      search rules,
      (
        omega arith,
        omega (
          arith,
          c.requires,
          left,
          c.push.ensures.len,
          ap length c.loop-state.invariant,
          length-append c.args.out.now.items (text (take c.loop-state.state c.args.self.now)),
        ),
      ),
    )
