use Rattle.bb_recurrence.proofs.RecurrenceLaws.{long_lines_are_unread, numbers_are_unique, recurrence_reply_is_unique}
use Rattle.bb_recurrence.proofs.laws.recurrence_reply_is_unique.Goals as goal

pub returns-clause-unique : goal.returns-clause-unique
returns-clause-unique c = recurrence_reply_is_unique

pub returns-clause-numbers : goal.returns-clause-numbers
returns-clause-numbers c = numbers_are_unique

pub returns-clause-long : goal.returns-clause-long
returns-clause-long c = long_lines_are_unread
