use Rattle.std.proofs.lemmas.Bool.{both_ways, not-true, not-false}
use Rattle.std.proofs.lemmas.Result.{err_from_is_err_and, on_err_weaker}
use Rattle.std.proofs.Common.{arith, inl, inr, sym, ◌∙◌}
use Rattle.bb_decide.proofs.Costs.{if_ok_both}
use Rattle.bb_decide.proofs.SinglePassVerdicts.{both_end, both_on, chance_costs, cycle_costs, exact_costs, run_costs}
use Rattle.bb_decide.proofs.SinglePassVerdicts.{settled_ends, single_pass_costs, single_pass_ends}
use Rattle.bb_decide.proofs.Refused.{breaks_alone, breaks_in_cycles, breaks_in_records, breaks_single_pass}
use Rattle.bb_decide.proofs.RunsMade.{both_open, cycles_add, no_search_adds, open_adds, settled_adds}
use Rattle.bb_decide.proofs.RunsMade.{single_pass_adds, translations_add}
use Rattle.bb_decide.proofs.WithinCost.{cycles_end, translations_end, within_one, within_three, within_two}
use Rattle.bb_decide.proofs.single_pass_decision.search_by_plan.Goals as goal

pub simulate_in_registers-requires-clause-room : goal.simulate_in_registers-requires-clause-room
simulate_in_registers-requires-clause-room g c =
    let zero = c.requires.steps in
    let most = c.show_accepted.ensures.accepted.steps in
    omega (arith, zero, most)

pub returns-then-not-plan-2-clause-costs : goal.returns-then-not-plan-2-clause-costs
returns-then-not-plan-2-clause-costs g c none =
    run_costs _ _ (g.K.FingerprintKeys.key_of c.args.keys.now) _ _ c.requires.steps c.in_ok-outcome.ensures.counted
    c.in_ok-outcome.outcome c.in_ok-outcome.ensures.outcome

pub returns-then-not-plan-clause-costs : goal.returns-then-not-plan-clause-costs
returns-then-not-plan-clause-costs g c =
    if_ok_both c.seek_cycle.result _ _ _ (λ search_result ran counts none.
    cycle_costs _ _ (g.K.FingerprintKeys.key_of c.args.keys.now) _ _ c.requires.steps search_result ran counts)
    c.seek_cycle.ensures.ran c.seek_cycle.ensures.counted

pub returns-then-not-plan-3-clause-costs : goal.returns-then-not-plan-3-clause-costs
returns-then-not-plan-3-clause-costs g c =
    if_ok_both c.seek_translation.result _ _ _ (λ search_result ran counts none.
    cycle_costs _ _ (g.K.FingerprintKeys.key_of c.args.keys.now) _ _ c.requires.steps search_result ran counts)
    c.seek_translation.ensures.ran c.seek_translation.ensures.counted

pub returns-in_err-outcome-clause-cut : goal.returns-in_err-outcome-clause-cut
returns-in_err-outcome-clause-cut g c =
    let fault = err_from_is_err_and c.from_residual.result c.from_residual.ensures.1 in
    rw fault.1 (breaks_alone c.args.plan.cyclers c.args.plan.translated (inr (not-true _ c.if-not-plan.true)) _ _
    c.in_err-outcome.ensures.cut)

pub returns-then-not-plan-clause-cut : goal.returns-then-not-plan-clause-cut
returns-then-not-plan-clause-cut g c =
    on_err_weaker c.seek_cycle.result (breaks_alone c.args.plan.cyclers c.args.plan.translated
    (inr (not-true _ c.if-not-plan.true)) _ _)
    c.seek_cycle.ensures.cut

pub returns-then-not-plan-3-clause-cut : goal.returns-then-not-plan-3-clause-cut
returns-then-not-plan-3-clause-cut g c =
    on_err_weaker c.seek_translation.result (breaks_alone c.args.plan.cyclers c.args.plan.translated
    (inl (not-true _ c.if-not-plan-3.true)) _ _)
    c.seek_translation.ensures.cut

pub returns-then-not-plan-2-clause-adds : goal.returns-then-not-plan-2-clause-adds
returns-then-not-plan-2-clause-adds g c =
    rw (not-true _ c.if-not-plan.true, not-true _ c.if-not-plan-2.true)
    (no_search_adds _ _ _ c.in_ok-outcome.ensures.counted)

pub returns-then-not-plan-clause-adds : goal.returns-then-not-plan-clause-adds
returns-then-not-plan-clause-adds g c =
    rw (not-true _ c.if-not-plan.true, not-false _ c.if-not-plan-2.false)
    (if_ok_both c.seek_cycle.result _ _ _ (cycles_add _ _ _) c.seek_cycle.ensures.found
    c.seek_cycle.ensures.counted)

pub returns-then-not-plan-3-clause-adds : goal.returns-then-not-plan-3-clause-adds
returns-then-not-plan-3-clause-adds g c =
    rw (not-false _ c.if-not-plan.false, not-true _ c.if-not-plan-3.true)
    (if_ok_both c.seek_translation.result _ _ _ (translations_add _ _ _) c.seek_translation.ensures.found
    c.seek_translation.ensures.counted)

-- ---- both searches are on

pub returns-in-Some-clause-ended : goal.returns-in-Some-clause-ended
returns-in-Some-clause-ended g c =
    both_on _ _ c.args.plan (not-false _ c.if-not-plan-3.false) (not-false _ c.if-not-plan.false) c.in-Some.search_result
    (single_pass_ends _ _ (g.K.FingerprintKeys.key_of c.args.keys.now) _ _ c.requires.steps c.in-Some.search_result
    (rw c.in-Some.is at c.in_ok-search_result.ensures.single_pass))

pub returns-in-Some-clause-costs : goal.returns-in-Some-clause-costs
returns-in-Some-clause-costs g c =
    λ none. single_pass_costs _ _ _ _ _ c.requires.steps c.in-Some.search_result
    (rw c.in-Some.is at c.in_ok-search_result.ensures.single_pass)
    (λ chance. none (not-false _ c.if-not-plan-3.false, not-false _ c.if-not-plan.false, chance))

pub returns-then-is_settled-clause-ended : goal.returns-then-is_settled-clause-ended
returns-then-is_settled-clause-ended g c =
    both_on _ _ c.args.plan (not-false _ c.if-not-plan-3.false) (not-false _ c.if-not-plan.false) c.in_ok-search_result-2.search_result
    (settled_ends _ _ c.in_ok-search_result-2.search_result (sym c.is_settled.ensures ∙ c.if-is_settled.true)
    c.in_ok-search_result-2.ensures.found c.in_ok-search_result-2.ensures.ran)

pub returns-then-is_settled-clause-costs : goal.returns-then-is_settled-clause-costs
returns-then-is_settled-clause-costs g c =
    let single_pass = rw c.in-None.is at c.in_ok-search_result.ensures.single_pass in
    λ none. exact_costs single_pass.1 _ _ _ c.requires.steps single_pass.2 _ c.in_ok-search_result-2.ensures.found
    c.in_ok-search_result-2.ensures.ran c.in_ok-search_result-2.ensures.counted
    (λ chance. none (not-false _ c.if-not-plan-3.false, not-false _ c.if-not-plan.false, chance))

pub returns-clause-ended : goal.returns-clause-ended
returns-clause-ended g c =
    let none = both_open c.in_ok-search_result-2.search_result (sym c.is_settled.ensures ∙ c.if-is_settled.false)
    c.in_ok-search_result-2.ensures.found c.in_ok-search_result-2.ensures.ran in
    if_ok_both c.seek_translation-2.result _ _ _ (λ search_result found ran. both_on _ _ c.args.plan
    (not-false _ c.if-not-plan-3.false) (not-false _ c.if-not-plan.false) search_result (both_end _ _ none.1 search_result found ran))
    c.seek_translation-2.ensures.found c.seek_translation-2.ensures.ran

pub returns-clause-costs : goal.returns-clause-costs
returns-clause-costs g c =
    let single_pass = rw c.in-None.is at c.in_ok-search_result.ensures.single_pass in
    let no_cycle = both_open c.in_ok-search_result-2.search_result
    (sym c.is_settled.ensures ∙ c.if-is_settled.false)
    c.in_ok-search_result-2.ensures.found c.in_ok-search_result-2.ensures.ran in
    if_ok_both c.seek_translation-2.result _ _ _ (λ search_result found ran none.
    chance_costs single_pass.1 no_cycle.1 c.seek_translation-2.new.meter.steps search_result found ran
    (λ chance. none (not-false _ c.if-not-plan-3.false, not-false _ c.if-not-plan.false, chance)))
    c.seek_translation-2.ensures.found c.seek_translation-2.ensures.ran

pub returns-in-Some-clause-adds : goal.returns-in-Some-clause-adds
returns-in-Some-clause-adds g c =
    rw (not-false _ c.if-not-plan.false, not-false _ c.if-not-plan-3.false)
    (single_pass_adds _ _ _ c.in-Some.search_result (rw c.in-Some.is at c.in_ok-search_result.ensures.single_pass))

pub returns-then-is_settled-clause-adds : goal.returns-then-is_settled-clause-adds
returns-then-is_settled-clause-adds g c =
    let single_pass = rw c.in-None.is at c.in_ok-search_result.ensures.single_pass in
    rw (not-false _ c.if-not-plan.false, not-false _ c.if-not-plan-3.false)
    (settled_adds single_pass.1 single_pass.2 c.in_ok-search_result-2.search_result
    (sym c.is_settled.ensures ∙ c.if-is_settled.true) c.in_ok-search_result-2.ensures.found
    c.in_ok-search_result-2.ensures.ran c.in_ok-search_result-2.ensures.counted)

pub returns-clause-adds : goal.returns-clause-adds
returns-clause-adds g c =
    let single_pass = rw c.in-None.is at c.in_ok-search_result.ensures.single_pass in
    rw (not-false _ c.if-not-plan.false, not-false _ c.if-not-plan-3.false)
    (if_ok_both c.seek_translation-2.result _ _ _
    (open_adds single_pass.1 single_pass.2 _ c.in_ok-search_result-2.search_result
    (sym c.is_settled.ensures ∙ c.if-is_settled.false)
    c.in_ok-search_result-2.ensures.found c.in_ok-search_result-2.ensures.ran c.in_ok-search_result-2.ensures.counted)
    c.seek_translation-2.ensures.found c.seek_translation-2.ensures.counted)

pub returns-in_err-search_result-2-clause-cut : goal.returns-in_err-search_result-2-clause-cut
returns-in_err-search_result-2-clause-cut g c =
    let single_pass = rw c.in-None.is at c.in_ok-search_result.ensures.single_pass in
    let fault = err_from_is_err_and c.from_residual-in_err-search_result-2.result
    c.from_residual-in_err-search_result-2.ensures.1 in
    rw (fault.1, not-false _ c.if-not-plan.false, not-false _ c.if-not-plan-3.false) (breaks_in_cycles single_pass.1 _ single_pass.2 _ c.in_err-search_result-2.ensures.cut)

pub returns-clause-cut : goal.returns-clause-cut
returns-clause-cut g c =
    let single_pass = rw c.in-None.is at c.in_ok-search_result.ensures.single_pass in
    rw (not-false _ c.if-not-plan.false, not-false _ c.if-not-plan-3.false) (on_err_weaker c.seek_translation-2.result
    (breaks_in_records single_pass.1 _ single_pass.2 _ c.in_ok-search_result-2.search_result
    (sym c.is_settled.ensures ∙ c.if-is_settled.false) c.in_ok-search_result-2.ensures.found
    c.in_ok-search_result-2.ensures.ran c.in_ok-search_result-2.ensures.counted _)
    c.seek_translation-2.ensures.cut)

pub returns-in_err-search_result-clause-cut : goal.returns-in_err-search_result-clause-cut
returns-in_err-search_result-clause-cut g c =
    let fault = err_from_is_err_and c.from_residual-in_err-search_result.result
    c.from_residual-in_err-search_result.ensures.1 in
    rw (fault.1, not-false _ c.if-not-plan.false, not-false _ c.if-not-plan-3.false) (breaks_single_pass _ _ c.in_err-search_result.ensures.cut)

-- ---- a search alone, or none

pub returns-then-not-plan-2-clause-ended : goal.returns-then-not-plan-2-clause-ended
returns-then-not-plan-2-clause-ended g c = (
  c.in_ok-outcome.ensures.outcome,
  (
    λ on. absurd (both_ways _ (not-true _ c.if-not-plan-2.true) on),
    λ on. absurd (both_ways _ (not-true _ c.if-not-plan.true) on),
  ),
)

pub returns-then-not-plan-clause-ended : goal.returns-then-not-plan-clause-ended
returns-then-not-plan-clause-ended g c =
    if_ok_both c.seek_cycle.result _ _ _ (cycles_end _ _ c.args.plan (not-false _ c.if-not-plan-2.false)
    (both_ways _ (not-true _ c.if-not-plan.true))) c.seek_cycle.ensures.found c.seek_cycle.ensures.ran

pub returns-then-not-plan-3-clause-ended : goal.returns-then-not-plan-3-clause-ended
returns-then-not-plan-3-clause-ended g c =
    if_ok_both c.seek_translation.result _ _ _ (translations_end _ _ c.args.plan
    (both_ways _ (not-true _ c.if-not-plan-3.true)) (not-false _ c.if-not-plan.false))
    c.seek_translation.ensures.found c.seek_translation.ensures.ran

-- ---- no more than three runs

pub returns-in_err-outcome-clause-within : goal.returns-in_err-outcome-clause-within
returns-in_err-outcome-clause-within g c = within_one c.in_err-outcome.ensures.within

pub returns-then-not-plan-2-clause-within : goal.returns-then-not-plan-2-clause-within
returns-then-not-plan-2-clause-within g c = within_one c.in_ok-outcome.ensures.within

pub returns-then-not-plan-clause-within : goal.returns-then-not-plan-clause-within
returns-then-not-plan-clause-within g c = within_one c.seek_cycle.ensures.within

pub returns-then-not-plan-3-clause-within : goal.returns-then-not-plan-3-clause-within
returns-then-not-plan-3-clause-within g c = within_one c.seek_translation.ensures.within

pub returns-in_err-search_result-clause-within : goal.returns-in_err-search_result-clause-within
returns-in_err-search_result-clause-within g c = within_one c.in_err-search_result.ensures.within

pub returns-in-Some-clause-within : goal.returns-in-Some-clause-within
returns-in-Some-clause-within g c = within_one c.in_ok-search_result.ensures.within

pub returns-in_err-search_result-2-clause-within : goal.returns-in_err-search_result-2-clause-within
returns-in_err-search_result-2-clause-within g c =
    within_two c.in_ok-search_result.ensures.within c.in_err-search_result-2.ensures.within

pub returns-then-is_settled-clause-within : goal.returns-then-is_settled-clause-within
returns-then-is_settled-clause-within g c =
    within_two c.in_ok-search_result.ensures.within c.in_ok-search_result-2.ensures.within

pub returns-clause-within : goal.returns-clause-within
returns-clause-within g c =
    within_three c.in_ok-search_result.ensures.within c.in_ok-search_result-2.ensures.within
    c.seek_translation-2.ensures.within
