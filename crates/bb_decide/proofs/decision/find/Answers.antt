use Rattle.std.proofs.lemmas.Bool.{both_ways, not-true, not-false}
use Rattle.std.proofs.Common.{refl, ◌∙◌}
use Rattle.std.proofs.lemmas.Result.{IfOk-weaker}
use Rattle.bb_decide.proofs.Costs.{counts_all, counts_searches, if_ok_both, no_walk_counted}
use Rattle.bb_decide.proofs.Costs.{search_of_all}
use Rattle.bb_decide.proofs.WithinCost.{walk_of_all, within_deciders, within_searches}
use Rattle.bb_decide.proofs.decision.find.Goals as goal

pub returns-in_err-verdict-clause-within : goal.returns-in_err-verdict-clause-within
returns-in_err-verdict-clause-within g c = within_searches c.in_err-verdict.ensures.within

pub returns-in-Some-clause-within : goal.returns-in-Some-clause-within
returns-in-Some-clause-within g c = within_searches c.in_ok-verdict.ensures.within

pub returns-then-not-plan-clause-within : goal.returns-then-not-plan-clause-within
returns-then-not-plan-clause-within g c = within_searches c.in_ok-verdict.ensures.within

pub returns-clause-within : goal.returns-clause-within
returns-clause-within g c = within_deciders c.in_ok-verdict.ensures.within c.backward.ensures.within

pub returns-clause-found : goal.returns-clause-found
returns-clause-found g c =
    let passes = rw c.in-None.is at c.in_ok-verdict.ensures.found in
    IfOk-weaker c.backward.result _ _
    (λ found. walk_of_all _ _ c.args.plan found passes (not-false _ c.if-not-plan.false))
    c.backward.ensures.found

pub returns-in-Some-clause-found : goal.returns-in-Some-clause-found
returns-in-Some-clause-found g c =
    let found = rw c.in-Some.is at c.in_ok-verdict.ensures.found in
    search_of_all c.args.machine.now c.args.limits.now c.args.plan c.in-Some.verdict found

pub returns-in-Some-clause-counted : goal.returns-in-Some-clause-counted
returns-in-Some-clause-counted g c =
    let found = rw c.in-Some.is at c.in_ok-verdict.ensures.found in
    counts_searches c.args.machine.now c.args.limits.now c.args.plan c.in-Some.verdict _ _
    c.requires.most_levels
    c.requires.nodes found c.in_ok-verdict.ensures.counted

pub returns-clause-counted : goal.returns-clause-counted
returns-clause-counted g c =
    let passes = rw c.in-None.is at c.in_ok-verdict.ensures.found in
    if_ok_both c.backward.result _ _ _
    (λ found. counts_all c.args.machine.now c.args.limits.now c.args.plan passes found _ _ _
    c.in_ok-verdict.ensures.counted (not-false _ c.if-not-plan.false)) c.backward.ensures.found
    c.backward.ensures.counted

pub returns-then-not-plan-clause-found : goal.returns-then-not-plan-clause-found
returns-then-not-plan-clause-found g c =
    let passes = rw c.in-None.is at c.in_ok-verdict.ensures.found in
    (passes.0, passes.1, λ on. absurd (both_ways _ (not-true _ c.if-not-plan.true) on))

pub returns-then-not-plan-clause-counted : goal.returns-then-not-plan-clause-counted
returns-then-not-plan-clause-counted g c =
    let counts = c.in_ok-verdict.ensures.counted in record {
      searched = c.search_in_turn.new.meter;
      searches = counts;
      steps = refl;
      most_cells = refl;
      walk = no_walk_counted _ _ _ _ (counts.adds.most_levels ∙ c.requires.most_levels)
          (counts.adds.nodes ∙ c.requires.nodes) (λ made. both_ways _ (not-true _ c.if-not-plan.true) made.2);
    }
