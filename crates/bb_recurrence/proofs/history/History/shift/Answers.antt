use Rattle.std.proofs.Common.{arith}
use Rattle.std.proofs.lemmas.Int.{ints}
use Rattle.bb_recurrence.proofs.Moves.{moved_on, place_in_table}
use Rattle.bb_recurrence.proofs.history.History.shift.Goals as goal

pub move_of-shift-requires : goal.move_of-shift-requires
move_of-shift-requires c =
    let used = c.requires.recorded _ c.loop-step-test.true in
    let named = place_in_table _ _ _ used c.show_machine.ensures.machine in
    record { state = named.0; symbol = named.1 }

pub loop-step-preserved : goal.loop-step-preserved
loop-step-preserved c =
    let here = c.loop-step.invariant in
    let used = c.requires.recorded _ c.loop-step-test.true in
    let moved = c.move_of-shift.ensures.moves _ c.requires.never used in
    let near = c.move_of-shift.ensures.near in
    let is = moved_on _ _ _ _ _ here.order here.shift moved in
    let few = c.requires.few in
    let low = here.low in
    let high = here.high in
    let order = here.order in
    let soon = c.loop-step-test.true in
    record {
      order = omega (arith, order);
      within = omega (arith, soon);
      shift = omega (arith, ints, is, near.0, near.1, low, high, few, order, soon);
      low = omega (arith, ints, near.0, near.1, low, high, few, order, soon);
      high = omega (arith, ints, near.0, near.1, low, high, few, order, soon);
    }
