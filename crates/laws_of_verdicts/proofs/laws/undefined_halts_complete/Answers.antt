use Rattle.laws_of_verdicts.proofs.UndefinedHalts.{filled_entries_halt_next, undefined_entries_keep_halts}
use Rattle.laws_of_verdicts.proofs.laws.undefined_halts_complete.Goals as goal

pub returns-clause-same : goal.returns-clause-same
returns-clause-same c = undefined_entries_keep_halts

pub returns-clause-next : goal.returns-clause-next
returns-clause-next c = filled_entries_halt_next
