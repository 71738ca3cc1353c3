use Rattle.std.proofs.Common.{arith}
use Rattle.std.proofs.lemmas.Int.{ints}
use Rattle.bb_recurrence.proofs.GoingOn.{shift_is, small_head}
use Rattle.bb_recurrence.proofs.period.SavedPair.find_shift.Goals as goal

pub overflow_sub-result : goal.overflow_sub-result
overflow_sub-result g c =
    let one = small_head _ _ _ _ _ c.requires.saved.goes_on.never c.in_ok-run_to.ensures.at in
    let two = small_head _ _ _ _ _ c.requires.saved.goes_on.never c.requires.saved.at in
    omega (arith, ints, one.0, one.1, two.0, two.1, c.position.ensures, c.position-2.ensures)

pub returns-clause-shift : goal.returns-clause-shift
returns-clause-shift g c =
    let one = small_head _ _ _ _ _ c.requires.saved.goes_on.never c.in_ok-run_to.ensures.at in
    let two = small_head _ _ _ _ _ c.requires.saved.goes_on.never c.requires.saved.at in
    let is = shift_is _ _ _ _ _ _ _ _ c.requires.saved.at c.in_ok-run_to.ensures.at in
    omega (arith, ints, one.0, one.1, two.0, two.1, c.position.ensures, c.position-2.ensures, is)

pub returns-clause-near : goal.returns-clause-near
returns-clause-near g c =
    let one = small_head _ _ _ _ _ c.requires.saved.goes_on.never c.in_ok-run_to.ensures.at in
    let two = small_head _ _ _ _ _ c.requires.saved.goes_on.never c.requires.saved.at in
    record {
      low = omega (arith, ints, one.0, one.1, two.0, two.1, c.position.ensures, c.position-2.ensures);
      high = omega (arith, ints, one.0, one.1, two.0, two.1, c.position.ensures, c.position-2.ensures);
    }

pub returns-clause-counted : goal.returns-clause-counted
returns-clause-counted g c =
    let from = c.requires.saved.at.steps in
    let made = c.in_ok-run_to.ensures.counted in
    record {
      whole = λ is. absurd (c.if-period-pair.false is);
      less = λ less. omega (arith, from, made);
    }
