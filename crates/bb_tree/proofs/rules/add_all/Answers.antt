use Rattle.bb_tree.proofs.SortedRules.{all_gathered, gathering_begins, gathering_goes_on}
use Rattle.bb_tree.proofs.SortedRules.{halt_place, room_for_more, state_place}
use Rattle.bb_tree.proofs.rules.add_all.Goals as goal

pub loop-state-init : goal.loop-state-init
loop-state-init c = rw (c.push.ensures.items, c.requires.no_starts, c.len.ensures.value)
    (gathering_begins c.args.machine.now c.args.list.now.items)

pub add_rules-requires : goal.add_rules-requires
add_rules-requires c = room_for_more c.states-state-end.ensures.machine c.loop-state.invariant
    (state_place _ c.loop-state-test.true c.states-state-end.ensures.value) _ c.requires.room

pub loop-state-preserved : goal.loop-state-preserved
loop-state-preserved c = gathering_goes_on c.states-state-end.ensures.machine c.loop-state.invariant
    (state_place _ c.loop-state-test.true c.states-state-end.ensures.value) c.add_rules.ensures
    (rw c.len-in-loop-state.ensures.value at c.push-in-loop-state.ensures.items)

pub add_rules-requires-2 : goal.add_rules-requires-2
add_rules-requires-2 c = room_for_more c.states-state-end.ensures.machine c.loop-state.invariant
    (halt_place _ c.loop-state.auto.state-end c.loop-state-test.false c.states-state-end.ensures.value) _
    c.requires.room

pub returns-clause-added : goal.returns-clause-added
returns-clause-added c =
    let end = c.loop-state.auto.state-end in
    let past = c.loop-state-test.false in
    let count = c.states-state-end.ensures.value in
    all_gathered c.states-state-end.ensures.machine c.loop-state.invariant (halt_place _ end past count) _ end
    past count c.add_rules-2.ensures (rw c.len-2.ensures.value at c.push-2.ensures.items)
