use Rattle.std.proofs.Common.{◌≡◌, ◌+◌, arith}
use Rattle.std.proofs.lemmas.Int.{ints}
use Rattle.bb_recurrence.specs.Pairs.{distance_of}
use Rattle.bb_recurrence.proofs.GoingOn.{one_on, shift_is, small_head}
use Rattle.bb_recurrence.proofs.recurrence.KnownPair.find_start.Goals as goal

pub overflow_sub-whole : goal.overflow_sub-whole
overflow_sub-whole g c =
    let one = small_head _ _ _ _ _ c.requires.goes_on.never c.in_ok-step.ensures.ahead in
    let two = small_head _ _ _ _ _ c.requires.goes_on.never c.in_ok-step.ensures.at in
    omega (arith, ints, one.0, one.1, two.0, two.1, c.position.ensures, c.position-2.ensures)

pub returns-clause-shift : goal.returns-clause-shift
returns-clause-shift g c =
    let one = small_head _ _ _ _ _ c.requires.goes_on.never c.in_ok-step.ensures.ahead in
    let two = small_head _ _ _ _ _ c.requires.goes_on.never c.in_ok-step.ensures.at in
    let later : c.args.self.now.second ≡ c.args.self.now.first + distance_of c.args.self.now = omega (arith, c.requires.order) in
    let is = shift_is _ _ _ _ _ _ _ _ c.in_ok-step.ensures.at (one_on _ _ _ _ _ _ later c.in_ok-step.ensures.ahead) in
    omega (arith, ints, one.0, one.1, two.0, two.1, c.position.ensures, c.position-2.ensures, is)

pub returns-clause-near : goal.returns-clause-near
returns-clause-near g c =
    let one = small_head _ _ _ _ _ c.requires.goes_on.never c.in_ok-step.ensures.ahead in
    let two = small_head _ _ _ _ _ c.requires.goes_on.never c.in_ok-step.ensures.at in
    record {
      low = omega (arith, ints, one.0, one.1, two.0, two.1, c.position.ensures, c.position-2.ensures);
      high = omega (arith, ints, one.0, one.1, two.0, two.1, c.position.ensures, c.position-2.ensures);
    }
