use Rattle.laws_of_verdicts.proofs.Found.{cyclers_are_found}
use Rattle.laws_of_verdicts.proofs.laws.cyclers_are_found.Goals as goal

pub returns : goal.returns
returns c = cyclers_are_found
