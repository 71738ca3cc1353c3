use Rattle.bb_run.proofs.Replies.{reply_is_unique}
use Rattle.bb_run.proofs.laws.reply_is_unique.Goals as goal

pub returns : goal.returns
returns c = reply_is_unique
