use Rattle.laws_of_verdicts.proofs.LaterSteps.{cyclers_come_again}
use Rattle.laws_of_verdicts.proofs.laws.cyclers_come_again.Goals as goal

pub returns : goal.returns
returns c = cyclers_come_again
