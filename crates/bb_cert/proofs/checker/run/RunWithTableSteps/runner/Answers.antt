use Rattle.bb_cert.proofs.checker.run.RunWithTableSteps.runner.Goals as goal

pub returns : goal.returns
returns c =
    let known = c.requires.run.is.is_run in
    record { view = known.view; stands = c.runner.ensures.stands known; at = c.runner.ensures.steps }
