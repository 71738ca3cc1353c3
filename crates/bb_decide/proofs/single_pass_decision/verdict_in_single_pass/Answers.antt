use Rattle.std.proofs.lemmas.Bool.{both_ways, not-true, not-false}
use Rattle.std.proofs.Common.{Some, None, ap, ◌∙◌}
use Rattle.std.proofs.lemmas.Result.{err_from_is_err_and}
use Rattle.bb_sim.specs.declared.meter.Meter.{Meter}
use Rattle.bb_decide.proofs.SinglePassVerdicts.{found_is_verdict, no_walk_at_halt, no_walk_beside}
use Rattle.bb_decide.proofs.SinglePassVerdicts.{walk_counted}
use Rattle.bb_decide.proofs.RunsMade.{runs_before_tree, runs_broken_off, runs_counted, runs_counted_beside}
use Rattle.bb_sim.specs.Outcome.{HaltsNowhere}
use Rattle.bb_decide.specs.inside.Search.{SearchesFind}
use Rattle.bb_decide.proofs.Costs.{no_walk_counted, verdict_of_deciders}
use Rattle.bb_decide.proofs.WithinCost.{walk_of_all, within_cost, within_runs}
use Rattle.bb_decide.proofs.single_pass_decision.verdict_in_single_pass.Given as given
use Rattle.bb_decide.proofs.single_pass_decision.verdict_in_single_pass.Goals as goal
use Rattle.bb_decide.proofs.single_pass_decision.verdict_in_single_pass.Goals.{After-backward, in-NoSteps, in-NoCells}

pub returns-in-Found-clause-verdict : goal.returns-in-Found-clause-verdict
returns-in-Found-clause-verdict g c =
    found_is_verdict _ _ _ _ (rw c.in-Found.is at c.in_ok-verdict.ensures.ended)

pub returns-in-Found-clause-walk : goal.returns-in-Found-clause-walk
returns-in-Found-clause-walk g c =
    let within = c.in_ok-verdict.ensures.within in
    no_walk_beside _ _ _ _ _ (rw c.in-Found.is at c.in_ok-verdict.ensures.ended)
    (within.most_levels ∙ ap (λ (m : Meter). m.most_levels) c.new.ensures)
    (within.nodes ∙ ap (λ (m : Meter). m.nodes) c.new.ensures)

pub returns-in-Halt-clause-walk : goal.returns-in-Halt-clause-walk
returns-in-Halt-clause-walk g c =
    let within = c.in_ok-verdict.ensures.within in
    let ended = rw (c.in-Ran.is, c.in-Halt.is) at c.in_ok-verdict.ensures.ended in
    no_walk_at_halt _ _ _ _ _ ended.0.0
    (within.most_levels ∙ ap (λ (m : Meter). m.most_levels) c.new.ensures)
    (within.nodes ∙ ap (λ (m : Meter). m.nodes) c.new.ensures)

-- a limit ended the run, and nothing was found
open_yet : (g : given.Over) (c : After-backward g) → HaltsNowhere c.args.machine.now c.args.limits.now
    × SearchesFind c.args.machine.now c.args.limits.now c.args.plan None
open_yet g c = elim c.match-outcome.branch [
  | in-NoSteps w ↦
      let ended = rw (c.in-Ran.is, w.in-NoSteps.is) at c.in_ok-verdict.ensures.ended in (ended.0.0, ended.1)
  | in-NoCells w ↦
      let ended = rw (c.in-Ran.is, w.in-NoCells.is) at c.in_ok-verdict.ensures.ended in (ended.0.0, ended.1)
]

pub returns-in-Some-clause-walk : goal.returns-in-Some-clause-walk
returns-in-Some-clause-walk g c =
    let open_here = open_yet g (goal.at.returns-in-Some-clause-walk g c).After-backward in
    walk_counted _ _ _ (Some c.in-Some.verdict) c.search_by_plan.new.meter _ open_here.0 open_here.1
    (not-false _ c.if-not-plan.false) (rw c.in-Some.is at c.in_ok-verdict-2.ensures.found)
    (rw c.in-Some.is at c.in_ok-verdict-2.ensures.counted)

pub returns-in-None-clause-walk : goal.returns-in-None-clause-walk
returns-in-None-clause-walk g c =
    let open_here = open_yet g (goal.at.returns-in-None-clause-walk g c).After-backward in
    walk_counted _ _ _ None c.search_by_plan.new.meter _ open_here.0 open_here.1
    (not-false _ c.if-not-plan.false) (rw c.in-None.is at c.in_ok-verdict-2.ensures.found)
    (rw c.in-None.is at c.in_ok-verdict-2.ensures.counted)

pub returns-in-Found-clause-counted : goal.returns-in-Found-clause-counted
returns-in-Found-clause-counted g c =
    runs_counted c.args.plan c.new.ensures c.in_ok-verdict.ensures.adds

pub returns-in-Halt-clause-counted : goal.returns-in-Halt-clause-counted
returns-in-Halt-clause-counted g c =
    runs_counted c.args.plan c.new.ensures c.in_ok-verdict.ensures.adds

pub returns-then-not-plan-clause-counted : goal.returns-then-not-plan-clause-counted
returns-then-not-plan-clause-counted g c =
    runs_counted c.args.plan c.new.ensures c.in_ok-verdict.ensures.adds

pub returns-in-Some-clause-counted : goal.returns-in-Some-clause-counted
returns-in-Some-clause-counted g c =
    runs_counted_beside c.args.plan c.new.ensures c.in_ok-verdict.ensures.adds _ _
    c.in_ok-verdict-2.ensures.counted

pub returns-in-None-clause-counted : goal.returns-in-None-clause-counted
returns-in-None-clause-counted g c =
    runs_counted_beside c.args.plan c.new.ensures c.in_ok-verdict.ensures.adds _ _
    c.in_ok-verdict-2.ensures.counted

pub returns-then-not-plan-clause-verdict : goal.returns-then-not-plan-clause-verdict
returns-then-not-plan-clause-verdict g c =
    let off = both_ways _ (not-true _ c.if-not-plan.true) in
    elim c.match-outcome.branch [
      | in-NoSteps w ↦
          let ended = rw (c.in-Ran.is, w.in-NoSteps.is) at c.in_ok-verdict.ensures.ended in
          rw w.why-is (ended.0, (ended.1.0, ended.1.1, λ on. absurd (off on)))
      | in-NoCells w ↦
          let ended = rw (c.in-Ran.is, w.in-NoCells.is) at c.in_ok-verdict.ensures.ended in
          rw w.why-is (ended.0, (ended.1.0, ended.1.1, λ on. absurd (off on)))
    ]

pub returns-in_err-verdict-2-clause-cut : goal.returns-in_err-verdict-2-clause-cut
returns-in_err-verdict-2-clause-cut g c =
    let fault = err_from_is_err_and c.from_residual-in_err-verdict-2.result
    c.from_residual-in_err-verdict-2.ensures.1 in
    rw fault.1 (runs_before_tree c.args.plan c.new.ensures c.in_ok-verdict.ensures.adds
    c.backward.new.meter c.backward.ensures.within.steps c.backward.ensures.within.most_cells)

pub returns-in_err-verdict-clause-cut : goal.returns-in_err-verdict-clause-cut
returns-in_err-verdict-clause-cut g c =
    let call = c.in_err-verdict.ensures in
    let fault = err_from_is_err_and c.from_residual.result c.from_residual.ensures.1 in
    rw fault.1 (runs_broken_off c.args.plan c.new.ensures call.cut call.within.nodes call.within.most_levels)

pub returns-in-Found-clause-bound : goal.returns-in-Found-clause-bound
returns-in-Found-clause-bound g c = rw c.in-Found.is at c.in_ok-verdict.ensures.costs

pub returns-in_err-verdict-clause-within : goal.returns-in_err-verdict-clause-within
returns-in_err-verdict-clause-within g c = within_runs c.new.ensures c.in_err-verdict.ensures.within

pub returns-in-Found-clause-within : goal.returns-in-Found-clause-within
returns-in-Found-clause-within g c = within_runs c.new.ensures c.in_ok-verdict.ensures.within

pub returns-in-Halt-clause-within : goal.returns-in-Halt-clause-within
returns-in-Halt-clause-within g c = within_runs c.new.ensures c.in_ok-verdict.ensures.within

pub returns-then-not-plan-clause-within : goal.returns-then-not-plan-clause-within
returns-then-not-plan-clause-within g c = within_runs c.new.ensures c.in_ok-verdict.ensures.within

pub returns-in_err-verdict-2-clause-within : goal.returns-in_err-verdict-2-clause-within
returns-in_err-verdict-2-clause-within g c =
    within_cost c.new.ensures c.in_ok-verdict.ensures.within c.backward.ensures.within

pub returns-in-Some-clause-within : goal.returns-in-Some-clause-within
returns-in-Some-clause-within g c =
    within_cost c.new.ensures c.in_ok-verdict.ensures.within c.backward.ensures.within

pub returns-in-None-clause-within : goal.returns-in-None-clause-within
returns-in-None-clause-within g c =
    within_cost c.new.ensures c.in_ok-verdict.ensures.within c.backward.ensures.within

pub returns-in-Some-clause-verdict : goal.returns-in-Some-clause-verdict
returns-in-Some-clause-verdict g c =
    let open_here = open_yet g (goal.at.returns-in-Some-clause-verdict g c).After-backward in
    verdict_of_deciders c.args.machine.now c.args.limits.now c.args.plan c.in-Some.verdict open_here.0
    (walk_of_all _ _ _ (Some c.in-Some.verdict) open_here.1 (not-false _ c.if-not-plan.false)
    (rw c.in-Some.is at c.in_ok-verdict-2.ensures.found))

pub returns-in-None-clause-verdict : goal.returns-in-None-clause-verdict
returns-in-None-clause-verdict g c =
    let none = rw c.in-None.is at c.in_ok-verdict-2.ensures.found in
    elim c.match-outcome.branch [
      | in-NoSteps w ↦
          let ended = rw (c.in-Ran.is, w.in-NoSteps.is) at c.in_ok-verdict.ensures.ended in
          rw w.why-is (ended.0, (ended.1.0, ended.1.1, λ on. none))
      | in-NoCells w ↦
          let ended = rw (c.in-Ran.is, w.in-NoCells.is) at c.in_ok-verdict.ensures.ended in
          rw w.why-is (ended.0, (ended.1.0, ended.1.1, λ on. none))
    ]

pub returns-then-not-plan-clause-walk : goal.returns-then-not-plan-clause-walk
returns-then-not-plan-clause-walk g c =
    let within = c.in_ok-verdict.ensures.within in
    no_walk_counted _ _ _ _ (within.most_levels ∙ ap (λ (m : Meter). m.most_levels) c.new.ensures)
    (within.nodes ∙ ap (λ (m : Meter). m.nodes) c.new.ensures)
    (λ made. both_ways _ (not-true _ c.if-not-plan.true) made.3)

pub returns-then-not-plan-clause-bound : goal.returns-then-not-plan-clause-bound
returns-then-not-plan-clause-bound g c = elim c.match-outcome.branch [
  | in-NoSteps w ↦ rw (c.in-Ran.is, w.in-NoSteps.is) at c.in_ok-verdict.ensures.costs
  | in-NoCells w ↦ rw (c.in-Ran.is, w.in-NoCells.is) at c.in_ok-verdict.ensures.costs
]
