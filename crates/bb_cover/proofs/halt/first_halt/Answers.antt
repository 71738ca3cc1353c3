use Rattle.std.proofs.Common.{◌∙◌, ap, arith, sym, subst}
use Rattle.bb_sim.specs.declared.meter.Meter.{Meter}
use Rattle.bb_sim.specs.Run.{HaltsAt}
use Rattle.bb_sim.specs.Runner.{steps_of}
use Rattle.bb_sim.specs.Span.{IsLastInside}
use Rattle.bb_cover.proofs.Halting.{ends_so, halts_at_none}
use Rattle.bb_cover.proofs.halt.first_halt.Goals as goal

pub loop-runner-init : goal.loop-runner-init
loop-runner-init g c = record {
  stands = c.start-runner.ensures.stands;
  steps = let none = c.start-runner.ensures.steps in omega (arith, none);
  spent = let none = ap (λ (m : Meter). m.steps) c.new-meter.ensures in omega (arith, none);
  limit = c.start-runner.ensures.limit ∙ c.requires.limit;
}

pub loop-runner-preserved : goal.loop-runner-preserved
loop-runner-preserved g c =
    let here = c.loop-runner.invariant in
    let call = c.in_ok-advance.ensures in
    let moved = rw c.in-Stepped.is at call.moves in
    let reached = rw c.in-Stepped.is at call.reaches in
    record {
      stands = call.stands;
      steps = reached.0.within_steps;
      spent = let more = ap (λ (m : Meter). m.steps) moved.1 in let one = moved.0 in
          let was = here.spent in omega (arith, more, one, was);
      limit = call.limit ∙ here.limit;
    }

pub returns-in-Halted-clause-ends : goal.returns-in-Halted-clause-ends
returns-in-Halted-clause-ends g c =
    let call = c.in_ok-advance.ensures in
    let stays = rw c.in-Halted.is at call.moves in
    let here = rw c.in-Halted.is at call.answers in
    let last = rw c.in-Halted.is at call.reaches in
    let now = subst (HaltsAt c.args.machine.now) (sym (ap steps_of stays.runner)) here in
    ends_so c.args.machine.now c.args.limits.now c.advance.new.self (g.T.Tape.view c.advance.new.tape)
    call.stands now last.inside
    (record { steps = c.steps.result; score = c.score.result; undefined = c.undefined_here.result })
    c.steps.ensures c.score.ensures c.undefined_here.ensures

pub returns-in-NoSteps-clause-ends : goal.returns-in-NoSteps-clause-ends
returns-in-NoSteps-clause-ends g c =
    let call = c.in_ok-advance.ensures in
    let stays = rw c.in-NoSteps.is at call.moves in
    let on = rw c.in-NoSteps.is at call.answers in
    let last = rw c.in-NoSteps.is at call.reaches in
    halts_at_none c.args.machine.now c.args.limits.now (steps_of c.loop-runner.runner)
    (subst (IsLastInside c.args.machine.now c.args.limits.now) (ap steps_of stays.runner) last) on.0

pub returns-in-NoCells-clause-ends : goal.returns-in-NoCells-clause-ends
returns-in-NoCells-clause-ends g c =
    let call = c.in_ok-advance.ensures in
    let stays = rw c.in-NoCells.is at call.moves in
    let on = rw c.in-NoCells.is at call.answers in
    let last = rw c.in-NoCells.is at call.reaches in
    halts_at_none c.args.machine.now c.args.limits.now (steps_of c.loop-runner.runner)
    (subst (IsLastInside c.args.machine.now c.args.limits.now) (ap steps_of stays.runner) last) on.0
