use Rattle.std.proofs.lemmas.Result.{IfOk-weaker}
use Rattle.bb_recurrence.proofs.Quotients.{tells_period, tells_by_steps}
use Rattle.bb_recurrence.proofs.period.SavedPair.repeats_with.Goals as goal

pub returns-clause-tells : goal.returns-clause-tells
returns-clause-tells g c =
    IfOk-weaker _ _ _ (λ tells is. tells_period _ _ _ _ tells c.requires.divides c.requires.some c.requires.repeats
    (tells_by_steps _ _ _ _ _ _ tells c.requires.saved.at.steps c.in_ok-run_to.ensures.at.steps is))
    c.are_alike.ensures.tells
