use Rattle.bb_decide.proofs.RunsMade.{runs_are_unique}
use Rattle.bb_decide.proofs.laws.runs_are_unique.Goals as goal

pub returns : goal.returns
returns c = runs_are_unique
