use Rattle.bb_recurrence.proofs.ConfirmedPairs.{confirmed}
use Rattle.bb_recurrence.proofs.verdict.show_repeats.Goals as goal

pub returns : goal.returns
returns c =
    let here = confirmed c.pairs_repeat.ensures.cyclers c.pairs_repeat.ensures.translated _ _ _ _ _
    c.requires.pair c.requires.ok c.requires.claim in
    record { order = here.order; repeats = here.repeats; inside = here.inside }
