use Rattle.std.proofs.Common.{◌∙◌}
use Rattle.bb_cert.proofs.record_lemmas.UnderWay.{begins}
use Rattle.bb_cert.proofs.checker.run.Run.begin.Goals as goal

pub returns-clause-run : goal.returns-clause-run
returns-clause-run g c =
    let some = c.show_accepted.ensures.accepted in
    begins _ _ _ _ c.args.meter.now _ c.start-runner.ensures.stands c.start-runner.ensures.steps
    (c.start-runner.ensures.limit ∙ c.requires.limit) some.some_cell c.requires.meter c.begin_run.ensures
