use Rattle.std.proofs.lemmas.Bool.{both_ways}
use Rattle.std.proofs.Common.{◌<◌, ◌≤◌, rules}
use Rattle.std.proofs.lemmas.Result.{IfOk-weaker, on_ok_weaker}
use Rattle.bb_c.proofs.Costs.{costs_both_tries, costs_first_try, counts_both_tries, counts_first_try}
use Rattle.bb_c.proofs.Costs.{counts_one_try, costs_one_try}
use Rattle.bb_c.proofs.deciding.verdict_on.Goals as goal

pub returns-then-cells-le-FEW_CELLS-clause-bound : goal.returns-then-cells-le-FEW_CELLS-clause-bound
returns-then-cells-le-FEW_CELLS-clause-bound c =
    IfOk-weaker c.verdict_within.result _ _ (costs_one_try _ c.args.limits.now c.args.plan _)
    c.verdict_within.ensures.bound

pub returns-then-cells-le-FEW_CELLS-clause-counted : goal.returns-then-cells-le-FEW_CELLS-clause-counted
returns-then-cells-le-FEW_CELLS-clause-counted c =
    let few : c.args.limits.now.cells ≤ 1024 = search rules in
    on_ok_weaker c.verdict_within.result (counts_one_try few) c.verdict_within.ensures.counted

pub returns-then-is_found_by_run-clause-bound : goal.returns-then-is_found_by_run-clause-bound
returns-then-is_found_by_run-clause-bound c =
    costs_first_try _ c.small_limits.result c.args.limits.now c.args.plan c.small_limits.ensures.smaller _
    c.in_ok-first.first
    (c.is_found_by_run.ensures.0 c.if-is_found_by_run.true) c.in_ok-first.ensures.bound

pub returns-then-is_found_by_run-clause-counted : goal.returns-then-is_found_by_run-clause-counted
returns-then-is_found_by_run-clause-counted c =
    let many : 1024 < c.args.limits.now.cells = search rules in
    counts_first_try _ c.small_limits.result c.args.limits.now c.args.plan many c.small_limits.ensures.few
    c.in_ok-first.first _ c.in_ok-first.ensures.verdict
    (c.is_found_by_run.ensures.0 c.if-is_found_by_run.true) c.in_ok-first.ensures.counted

pub returns-clause-bound : goal.returns-clause-bound
returns-clause-bound c =
    costs_both_tries _ c.small_limits.result c.args.limits.now c.args.plan c.small_limits.ensures.smaller _ _
    c.in_ok-first.first
    c.in_ok-verdict.verdict c.small_limits.ensures.few c.in_ok-first.ensures.verdict
    (λ found. both_ways _ c.if-is_found_by_run.false (c.is_found_by_run.ensures.1 found))
    c.in_ok-first.ensures.bound c.in_ok-verdict.ensures.bound

pub returns-clause-counted : goal.returns-clause-counted
returns-clause-counted c =
    let many : 1024 < c.args.limits.now.cells = search rules in
    counts_both_tries _ c.small_limits.result c.args.limits.now c.args.plan many c.small_limits.ensures.few
    c.small_limits.ensures.smaller c.in_ok-first.first _ _ c.in_ok-first.ensures.verdict
    (λ found. both_ways _ c.if-is_found_by_run.false (c.is_found_by_run.ensures.1 found))
    c.in_ok-first.ensures.counted c.in_ok-verdict.ensures.counted
