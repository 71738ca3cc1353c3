use Rattle.bb_run.proofs.checking.run_check.Goals as goal

pub returns-clause-ends : goal.returns-clause-ends
returns-clause-ends g c = c.run_check_with_counts.ensures.ends
