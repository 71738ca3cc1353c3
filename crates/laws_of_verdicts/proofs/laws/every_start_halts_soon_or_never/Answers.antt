use Rattle.laws_of_verdicts.proofs.EveryStart.{every_start_halts_soon_or_never}
use Rattle.laws_of_verdicts.proofs.laws.every_start_halts_soon_or_never.Goals as goal

pub returns : goal.returns
returns c = every_start_halts_soon_or_never
