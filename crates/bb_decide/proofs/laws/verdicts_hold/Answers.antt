use Rattle.bb_decide.proofs.Claims.{verdicts_are_confirmed, verdicts_hold}
use Rattle.bb_decide.proofs.laws.verdicts_hold.Goals as goal

pub returns-clause-claim : goal.returns-clause-claim
returns-clause-claim c = verdicts_hold

pub returns-clause-confirmed : goal.returns-clause-confirmed
returns-clause-confirmed c = verdicts_are_confirmed
