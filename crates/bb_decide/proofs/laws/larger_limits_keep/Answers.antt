use Rattle.bb_decide.proofs.Sure.{larger_limits_keep}
use Rattle.bb_decide.proofs.laws.larger_limits_keep.Goals as goal

pub returns : goal.returns
returns c = larger_limits_keep
