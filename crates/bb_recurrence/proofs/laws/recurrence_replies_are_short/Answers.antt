use Rattle.bb_recurrence.proofs.ReplyLengths.{replies_short}
use Rattle.bb_recurrence.proofs.laws.recurrence_replies_are_short.Goals as goal

pub returns : goal.returns
returns c = replies_short c.pairs_repeat.ensures.cyclers c.pairs_repeat.ensures.translated
