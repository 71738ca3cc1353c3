use Rattle.bb_sim.proofs.LawLemmas.{last_step_exists}
use Rattle.bb_sim.proofs.laws.last_step_exists.Goals as goal

pub returns : goal.returns
returns c = last_step_exists
