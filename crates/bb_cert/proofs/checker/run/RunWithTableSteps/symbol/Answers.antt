use Rattle.std.proofs.Common.{◌∙◌, sym}
use Rattle.bb_cert.proofs.checker_lemmas.InRegisters.{symbol_is}
use Rattle.bb_cert.proofs.checker.run.RunWithTableSteps.symbol.Goals as goal

pub returns : goal.returns
returns g c table bounds meter here wanted =
    let known = here.is_run in
    record {
      runner = known.runner;
      view = known.view;
      stands = known.stands;
      at = sym known.steps_is;
      reads = c.from.ensures ∙ symbol_is known _ c.reads_one.ensures;
    }
