use Rattle.bb_decide.proofs.SmallLimits.{small_limits_decide}
use Rattle.bb_decide.proofs.laws.small_limits_decide.Goals as goal

pub returns : goal.returns
returns c = small_limits_decide
