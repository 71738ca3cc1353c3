use Rattle.bb_run.proofs.CheckReplies.{check_reply_is_unique, long_lines_are_unread}
use Rattle.bb_run.proofs.laws.check_reply_is_unique.Goals as goal

pub returns-clause-unique : goal.returns-clause-unique
returns-clause-unique c = check_reply_is_unique

pub returns-clause-long : goal.returns-clause-long
returns-clause-long c = long_lines_are_unread
