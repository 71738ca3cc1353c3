use Rattle.bb_cert.proofs.record_lemmas.ReplayStates.{goes-next}
use Rattle.bb_cert.specs.inside.Checks.{goes_nowhere}
use Rattle.bb_cert.proofs.checker.replay.ReplayStateCourse.take_in.Goals as goal

pub returns : goal.returns
returns c = rw c.requires.after.at at (goes-next goes_nowhere c.requires.before.stands c.requires.after.stands
    c.requires.after.at c.cells.ensures c.pass.ensures)
