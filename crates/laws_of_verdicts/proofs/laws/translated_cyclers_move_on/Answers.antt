use Rattle.laws_of_verdicts.proofs.LaterSteps.{translated_cyclers_move_on}
use Rattle.laws_of_verdicts.proofs.laws.translated_cyclers_move_on.Goals as goal

pub returns : goal.returns
returns c = translated_cyclers_move_on c.agreeing_records_go_on.ensures.alike
