use Rattle.std.proofs.Common.{◌≡◌, ◌<◌, ◌≤◌, ℕ, arith}
use Rattle.bb_tree.proofs.RuleLists.{rows_room, rows_end, table_keeps, put_in_order}
use Rattle.bb_tree.proofs.rules.add_rules.Goals as goal

inside : (state states n : ℕ) → state < states → states ≡ n → state < n
inside state states n h e = omega (arith, h, e)

past : (state states n : ℕ) → states ≤ state → states ≡ n → n ≤ state
past state states n h e = omega (arith, h, e)

pub add_rules_of-requires-clause-room : goal.add_rules_of-requires-clause-room
add_rules_of-requires-clause-room c = rows_room c.args.next c.loop-state.state c.args.machine.now
    (inside _ _ _ c.loop-state-test.true c.states-state-end.ensures.value) c.loop-state.list.items
    c.args.list.now.items _ _ c.loop-state.invariant c.requires

pub loop-state-preserved : goal.loop-state-preserved
loop-state-preserved c = table_keeps c.args.next c.loop-state.state c.args.machine.now
    (inside _ _ _ c.loop-state-test.true c.states-state-end.ensures.value) c.loop-state.list.items
    c.add_rules_of.new.list.items _ c.add_rules_of.ensures c.loop-state.invariant

pub returns : goal.returns
returns c =
    let all = rows_end c.args.next c.loop-state.state c.args.machine.now c.loop-state.list.items _
    (past _ _ _ c.loop-state-test.false c.states-state-end.ensures.value) c.loop-state.invariant in
    put_in_order c.args.list.now.items _ c.loop-state.list.items c.as_mut_slice.result.now c.len-from.result
    all c.as_mut_slice.ensures.value c.len-from.ensures.value _ c.sort_unstable_by_key.ensures.permutation
