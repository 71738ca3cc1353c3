use Rattle.std.proofs.Common.{◌≡◌, ◌+◌, subst, arith}
use Rattle.bb_sim.specs.Runner.{steps_of}
use Rattle.bb_recurrence.specs.LastUses.{AreRecorded}
use Rattle.bb_recurrence.specs.Pairs.{distance_of}
use Rattle.bb_recurrence.proofs.GoingOn.{at_own, inside_of, one_on, transition_of_runner}
use Rattle.bb_recurrence.proofs.SeenStarts.{seen_on}
use Rattle.bb_recurrence.proofs.lockstep.Lockstep.follow.Goals as goal

pub loop-self-preserved : goal.loop-self-preserved
loop-self-preserved g c =
    let here = c.loop-self.invariant in
    let at = c.in_ok-step.ensures.at in
    let ahead = c.in_ok-step-2.ensures.at in
    let steps = at.steps in
    let ahead_steps = ahead.steps in
    let apart = here.apart in
    record {
      at = at_own _ _ _ _ _ at;
      ahead = one_on _ _ _ _ _ _ (omega (arith, steps, apart)) ahead;
      tapes = record {
        pair = record { run = at.limit; saved = here.tapes.pair.saved };
        ahead = ahead.limit;
      };
      apart = omega (arith, steps, ahead_steps, apart);
      within = omega (arith, steps, c.loop-self-test.true, c.steps.ensures);
      seen_start = rw steps (seen_on _ _ _ _ _ _ _ _ (transition_of_runner _ _ _ _ _ here.at)
          (transition_of_runner _ _ _ _ _ here.ahead) c.has_same_transition-same.ensures
          (rw c.steps-in-loop-self.ensures at c.start_after-start.ensures) here.seen_start);
      recorded = rw ahead_steps (c.in_ok-step-2.ensures.goes_on here.recorded);
      counted = omega (
        arith,
        here.counted,
        steps,
        c.in_ok-step.ensures.counted,
        c.in_ok-step-2.ensures.counted,
      );
    }

pub returns-clause-recorded : goal.returns-clause-recorded
returns-clause-recorded g c =
    let here = c.loop-self.invariant in
    let apart = here.apart in
    let end : steps_of c.loop-self.self.ahead ≡ c.args.pair.now.second =
    omega (arith, apart, here.within, c.loop-self-test.false, c.steps.ensures, c.requires.order) in
    subst (λ k. AreRecorded c.args.pair.now.machine.now k c.loop-self.uses) end here.recorded

pub returns-clause-ahead : goal.returns-clause-ahead
returns-clause-ahead g c =
    let here = c.loop-self.invariant in
    let end : steps_of c.loop-self.self.runner + distance_of c.args.pair.now ≡ c.args.pair.now.second =
    omega (arith, here.within, c.loop-self-test.false, c.steps.ensures, c.requires.order) in
    one_on _ _ _ _ _ _ end here.ahead

pub has_same_transition-same-requires-clause-inside : goal.has_same_transition-same-requires-clause-inside
has_same_transition-same-requires-clause-inside g c =
    inside_of _ _ _ _ _ _ c.requires.goes_on c.loop-self.invariant.at

pub has_same_transition-same-requires-clause-ahead_inside : goal.has_same_transition-same-requires-clause-ahead_inside
has_same_transition-same-requires-clause-ahead_inside g c =
    inside_of _ _ _ _ _ _ c.requires.goes_on c.loop-self.invariant.ahead
