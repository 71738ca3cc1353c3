use Rattle.bb_run.proofs.Replies.{verdicts_are_borne_out}
use Rattle.bb_run.proofs.laws.verdicts_are_borne_out.Goals as goal

pub returns : goal.returns
returns c = verdicts_are_borne_out
