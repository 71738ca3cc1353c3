use Rattle.bb_recurrence.proofs.RecurrenceLaws.{quasihalt_is_greatest_use}
use Rattle.bb_recurrence.proofs.laws.quasihalt_is_greatest_use.Goals as goal

pub returns : goal.returns
returns c = quasihalt_is_greatest_use
