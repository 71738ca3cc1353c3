use Rattle.bb_run.proofs.Costs.{checks_cost_no_more, confirmed_claims_cost_that}
use Rattle.bb_run.proofs.laws.costs_bound_checks.Goals as goal

pub returns-clause-bound : goal.returns-clause-bound
returns-clause-bound c = checks_cost_no_more

pub returns-clause-confirmed : goal.returns-clause-confirmed
returns-clause-confirmed c = confirmed_claims_cost_that
