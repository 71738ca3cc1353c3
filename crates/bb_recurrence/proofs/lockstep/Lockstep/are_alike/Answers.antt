use Rattle.std.proofs.Common.{arith}
use Rattle.bb_recurrence.proofs.GoingOn.{at_own, inside_of, one_on, transition_of_runner}
use Rattle.bb_recurrence.proofs.SeenStarts.{same_on, differs_at}
use Rattle.bb_recurrence.proofs.lockstep.Lockstep.are_alike.Goals as goal

pub returns-then-not-has_same_transition-clause-tells : goal.returns-then-not-has_same_transition-clause-tells
returns-then-not-has_same_transition-clause-tells g c =
    let here = c.loop-self.invariant in
    differs_at _ _ _ _ _ _ (transition_of_runner _ _ _ _ _ here.at)
    (transition_of_runner _ _ _ _ _ (one_on _ _ _ _ _ _ here.apart here.ahead))
    (λ same. let is = c.has_same_transition.ensures.1 same in let test = c.if-not-has_same_transition.true in cc) here.later

pub step-requires-clause-room : goal.step-requires-clause-room
step-requires-clause-room g c =
    let here = c.loop-self.invariant in
    let counted = here.counted in
    let near = here.near in
    let apart = here.apart in
    let later = here.later in
    omega (arith, counted, near, apart, later, c.requires.room, c.loop-self-test.true, c.steps.ensures)

pub returns-in_err-step-clause-few : goal.returns-in_err-step-clause-few
returns-in_err-step-clause-few g c =
    let here = c.loop-self.invariant in
    let counted = here.counted in
    let near = here.near in
    omega (arith, counted, near, c.in_err-step.ensures.uncounted)

pub step-requires-in-loop-self-clause-room : goal.step-requires-in-loop-self-clause-room
step-requires-in-loop-self-clause-room g c =
    let here = c.loop-self.invariant in
    let counted = here.counted in
    let near = here.near in
    let apart = here.apart in
    let later = here.later in
    omega (
      arith,
      counted,
      near,
      apart,
      later,
      c.in_ok-step.ensures.counted,
      c.requires.room,
      c.loop-self-test.true,
      c.steps.ensures,
    )

pub returns-in_err-step-2-clause-few : goal.returns-in_err-step-2-clause-few
returns-in_err-step-2-clause-few g c =
    let here = c.loop-self.invariant in
    let counted = here.counted in
    let apart = here.apart in
    let later = here.later in
    omega (
      arith,
      counted,
      apart,
      later,
      c.in_ok-step.ensures.counted,
      c.in_err-step-2.ensures.uncounted,
      c.loop-self-test.true,
      c.steps.ensures,
    )

pub returns-clause-few : goal.returns-clause-few
returns-clause-few g c =
    let here = c.loop-self.invariant in
    let counted = here.counted in
    let near = here.near in
    omega (arith, counted, near)

pub loop-self-preserved : goal.loop-self-preserved
loop-self-preserved g c =
    let here = c.loop-self.invariant in
    let at = c.in_ok-step.ensures.at in
    let ahead = c.in_ok-step-2.ensures.at in
    let steps = at.steps in
    let ahead_steps = ahead.steps in
    let apart = here.apart in
    let later = here.later in
    record {
      at = at_own _ _ _ _ _ at;
      ahead = at_own _ _ _ _ _ ahead;
      saved = here.saved;
      tapes = record {
        pair = record { run = at.limit; saved = here.tapes.pair.saved };
        ahead = ahead.limit;
      };
      later = omega (arith, steps, later);
      apart = omega (arith, steps, ahead_steps, apart);
      near = omega (arith, ahead_steps, c.loop-self-test.true, c.steps.ensures);
      counted = omega (
        arith,
        here.counted,
        apart,
        later,
        steps,
        ahead_steps,
        c.in_ok-step.ensures.counted,
        c.in_ok-step-2.ensures.counted,
      );
      same = rw steps (same_on _ _ _ _ _ _ (transition_of_runner _ _ _ _ _ here.at)
          (transition_of_runner _ _ _ _ _ (one_on _ _ _ _ _ _ apart here.ahead))
          (c.has_same_transition.ensures.0 (let test = c.if-not-has_same_transition.false in cc)) here.same);
    }

pub has_same_transition-requires-clause-inside : goal.has_same_transition-requires-clause-inside
has_same_transition-requires-clause-inside g c =
    inside_of _ _ _ _ _ _ c.requires.goes_on c.loop-self.invariant.at

pub has_same_transition-requires-clause-ahead_inside : goal.has_same_transition-requires-clause-ahead_inside
has_same_transition-requires-clause-ahead_inside g c =
    inside_of _ _ _ _ _ _ c.requires.goes_on c.loop-self.invariant.ahead
