use Rattle.bb_recurrence.proofs.RecurrenceReplies.{known_of}
use Rattle.bb_recurrence.proofs.recurrences.ReplierResponder.respond.Goals as goal

pub finding_into-requires-clause-known : goal.finding_into-requires-clause-known
finding_into-requires-clause-known g c = known_of _ _ _ _ _ c.in-Ok.ensures.found
