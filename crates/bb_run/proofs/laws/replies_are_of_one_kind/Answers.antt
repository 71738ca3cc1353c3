use Rattle.bb_run.proofs.Validations.{has_one_kind, reply_has_form}
use Rattle.bb_run.proofs.laws.replies_are_of_one_kind.Goals as goal

pub returns-clause-one : goal.returns-clause-one
returns-clause-one c = has_one_kind

pub returns-clause-form : goal.returns-clause-form
returns-clause-form c = reply_has_form
