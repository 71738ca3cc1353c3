use Rattle.bb_decide.proofs.Verdicts.{verdict_is_unique}
use Rattle.bb_decide.proofs.laws.verdict_is_unique.Goals as goal

pub returns : goal.returns
returns c = verdict_is_unique
