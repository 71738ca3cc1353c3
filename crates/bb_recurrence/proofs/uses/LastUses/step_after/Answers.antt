use Rattle.std.proofs.Common.{arith, length, refl, rules, sym, subst, ◌≡◌, ◌<◌}
use Rattle.bb_machine.specs.Machine.{symbols_of}
use Rattle.bb_recurrence.proofs.EntryUses.{IsSeenRow, row_at_first, row_more, seen_state}
use Rattle.bb_recurrence.proofs.uses.LastUses.step_after.Goals as goal

pub loop-symbol-init : goal.loop-symbol-init
loop-symbol-init c n seen = row_at_first _ _ n

pub loop-symbol-preserved : goal.loop-symbol-preserved
loop-symbol-preserved c n seen =
    let machine = c.symbols-symbol-end.ensures.machine in
    let here = seen c.args.state c.loop-symbol.symbol (omega (arith, machine.states, c.requires.state)) (omega (
      arith,
      machine.symbols,
      c.loop-symbol-test.true,
      c.symbols-symbol-end.ensures.value,
    )) in
    row_more _ _ _ _ _ _ (c.loop-symbol.invariant n seen) here _ (search rules)

pub returns : goal.returns
returns c n seen =
    let end : c.loop-symbol.symbol ≡ symbols_of c.args.machine.now =
    omega (arith, c.loop-symbol-test.false, c.loop-symbol.auto.symbol-end, c.symbols-symbol-end.ensures.value) in
    seen_state _ c.symbols-symbol-end.ensures.machine _ n _ (rw end at c.loop-symbol.invariant n seen)

pub returns-then-symbols-eq2 : goal.returns-then-symbols-eq2
returns-then-symbols-eq2 c n seen =
    let machine = c.symbols.ensures.machine in
    let two : symbols_of c.args.machine.now ≡ 2 = omega (arith, c.if-symbols-eq2.true, c.symbols.ensures.value) in
    let below : c.args.state < length c.args.machine.now = c.requires.state in
    let first = seen c.args.state 0 below (omega (arith, two)) in
    let second = seen c.args.state 1 below (omega (arith, two)) in
    let row = row_more _ _ 0 n _ _ (row_at_first _ _ n) first _ refl in
    let rows = row_more _ _ 1 n _ _ row second c.max.result (search rules) in
    seen_state _ machine _ n _ (subst (λ k. IsSeenRow c.args.machine.now c.args.state k n c.max.result) (sym two) rows)
