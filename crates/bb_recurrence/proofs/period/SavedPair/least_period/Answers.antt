use Rattle.std.proofs.Common.{◌∙◌, arith, refl}
use Rattle.bb_recurrence.proofs.Reductions.{at_least, counts_at_first, counts_early, counts_more, least_at_end}
use Rattle.bb_recurrence.proofs.Reductions.{less_of_remainder, rest_within, room_for_test, tried_at_first, tried_more}
use Rattle.bb_recurrence.proofs.period.SavedPair.least_period.Goals as goal

pub loop-rest-init : goal.loop-rest-init
loop-rest-init g c = record {
  saved = refl;
  tapes = c.requires.tapes;
  above = omega arith;
  tried = tried_at_first _ _ _ c.requires.pair;
  no_less = omega arith;
  counted = counts_at_first _ _;
}

pub reduce-requires-clause-room : goal.reduce-requires-clause-room
reduce-requires-clause-room g c =
    let here = c.loop-rest.invariant in
    let few = c.requires.saved.goes_on.inside.within_steps in
    room_for_test _ _ _ _ _ here.tried.some here.counted
    (omega (arith, few, c.show_accepted.ensures.accepted.steps)) here.tried.within c.requires.room

pub returns-in_err-period-clause-few : goal.returns-in_err-period-clause-few
returns-in_err-period-clause-few g c =
    let here = c.loop-rest.invariant in
    counts_early _ _ _ _ _ _ c.loop-rest-test.true here.counted here.tried.within c.reduce.ensures.few

pub overflow_add-divisor : goal.overflow_add-divisor
overflow_add-divisor g c =
    let here = c.loop-rest.invariant in
    let few = c.requires.saved.goes_on.inside.within_steps in
    let low = at_least _ _ c.loop-rest-test.true here.tried.none in
    let within = rest_within _ _ _ _ here.counted in
    omega (arith, few, low, within, c.show_accepted.ensures.accepted.steps)

pub loop-rest-preserved-then-rest-divisor-eq0 : goal.loop-rest-preserved-then-rest-divisor-eq0
loop-rest-preserved-then-rest-divisor-eq0 g c =
    let here = c.loop-rest.invariant in
    let above = here.above in
    record {
      saved = c.in_ok-period.ensures.saved ∙ here.saved;
      tapes = c.reduce.ensures.tapes;
      above = omega (arith, above);
      tried = tried_more _ _ _ _ _ _ here.tried here.above c.if-rest-divisor-eq0.true _ _
          c.in_ok-period.ensures.reduced c.without-rest.ensures;
      no_less = omega (arith, here.no_less, c.in_ok-period.ensures.no_less);
      counted = counts_more _ _ _ _ _ _ _ here.counted here.tried.within c.in_ok-period.ensures.few
          (c.without-rest.ensures.half c.if-rest-divisor-eq0.true);
    }

pub next_divisor-divisor-requires-clause-below : goal.next_divisor-divisor-requires-clause-below
next_divisor-divisor-requires-clause-below g c =
    let here = c.loop-rest.invariant in
    less_of_remainder _ _ c.loop-rest-test.true here.tried.none c.if-rest-divisor-eq0.false

pub returns-clause-least : goal.returns-clause-least
returns-clause-least g c =
    let here = c.loop-rest.invariant in
    least_at_end _ _ _ _ _ _ c.loop-rest-test.false here.tried

pub loop-rest-smaller-then-rest-divisor-eq0 : goal.loop-rest-smaller-then-rest-divisor-eq0
loop-rest-smaller-then-rest-divisor-eq0 g c =
    let here = c.loop-rest.invariant in
    let low = at_least _ _ c.loop-rest-test.true here.tried.none in
    let half = c.without-rest.ensures.half c.if-rest-divisor-eq0.true in
    omega (arith, low, half, c.loop-rest-test.true)
