-- The result of the recurrences of a list: the input read, and the output written by then. This project's
-- own.
use Rattle.std.specs.Prelude.{ℕ, Bool, List, Option, Result}
use Rattle.bb_machine.specs.Limits.{Bounds}
use Rattle.bb_lines.specs.declared.fault.Fault.{Fault}
use Rattle.bb_lines.specs.Ends.{ListEnds}
use Rattle.bb_run.specs.declared.summary.Summary.{Summary}
use Rattle.bb_recurrence.specs.RecurrenceReply.{IsRecurrenceReply}
use Rattle.bb_recurrence.specs.RecurrenceSummary.{IsRecurrenceSummary}

-- each line has its reply, with the last uses of the entries or without them, and the summary is that of the
-- lines read
abbrev pub RecurrenceEnds : Bounds → Bool → Option (List ℕ) → Option (List ℕ) → Option (List ℕ)
    → Option (List ℕ) → Result Summary Fault → Type 0
RecurrenceEnds bounds entries left left_then held held_then end =
    ListEnds (IsRecurrenceReply bounds entries) (IsRecurrenceSummary bounds) left left_then held held_then end
