use Rattle.std.proofs.Common.{refl}
use Rattle.bb_cert.proofs.checker.run.Run.runner.Goals as goal

pub returns-in-InRegisters : goal.returns-in-InRegisters
returns-in-InRegisters c =
    let here = (rw c.in-InRegisters.is at c.requires.run.is).run in
    rw c.in-InRegisters.is (record {
      view = here.is_run.view;
      stands = c.runner.ensures.stands here.is_run;
      at = c.runner.ensures.steps;
    })

pub returns-in-OnTape : goal.returns-in-OnTape
returns-in-OnTape c =
    let here = rw c.in-OnTape.is at c.requires.run.is in
    rw c.in-OnTape.is (record { view = _; stands = here.stands; at = refl })
