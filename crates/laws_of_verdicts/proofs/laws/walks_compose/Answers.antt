use Rattle.laws_of_verdicts.proofs.Shards.{walks_compose}
use Rattle.laws_of_verdicts.proofs.laws.walks_compose.Goals as goal

pub returns : goal.returns
returns c = walks_compose
