-- Laws of replies.
use Rattle.std.specs.Prelude.{◌≡◌, ℕ, ◌+◌, ◌*◌, ◌<◌, ◌≤◌, max, Bool, List, [], ◌∷◌, length, MatchOption}
use Rattle.bb_machine.specs.Limits.{Bounds, IsAccepted}
use Rattle.bb_machine.specs.Machine.{IsMachine, Table}
use Rattle.bb_cert.specs.declared.verdict.line.TheConstants.{LINE_BUFFER}
use Rattle.bb_run.specs.CheckReply.{unread_text}
use Rattle.bb_recurrence.specs.declared.uses.LastUse.{LastUse}
use Rattle.bb_recurrence.specs.declared.uses.LastUse.TheVariants as last
use Rattle.bb_recurrence.specs.RecurrenceReply.{AreNumbers, IsRecurrenceReply, Numbers, recurrence_text}

-- two replies to one line, within the same bounds and with the same choice of entries, are the same
abbrev pub RecurrenceReplyIsUnique : Type 0
RecurrenceReplyIsUnique = (bounds : Bounds) (entries : Bool) (line a b : List ℕ)
    → IsRecurrenceReply bounds entries line a → IsRecurrenceReply bounds entries line b → a ≡ b

-- one machine has one text: whatever the pair and the bounds, it is the same
abbrev pub NumbersAreUnique : Type 0
NumbersAreUnique = (table : Table) (entries : Bool) (a b : Numbers) → AreNumbers table entries a
    → AreNumbers table entries b → recurrence_text table entries a ≡ recurrence_text table entries b

-- a line with no room in the buffer of a verdict line is unread
abbrev pub LongLinesAreUnread : Type 0
LongLinesAreUnread = (bounds : Bounds) (entries : Bool) (line reply : List ℕ) → LINE_BUFFER < length line
    → IsRecurrenceReply bounds entries line reply → reply ≡ unread_text

-- under limits that are accepted, a reply is at most seven times as long as its line, and 89 bytes
abbrev pub RecurrenceRepliesAreShort : Type 0
RecurrenceRepliesAreShort = (bounds : Bounds) (entries : Bool) (line reply : List ℕ) → IsAccepted bounds
    → IsRecurrenceReply bounds entries line reply → length reply ≤ 7 * length line + 89

-- the greatest number among some last uses, plus 1; 0 without one
abbrev pub steps_past : List LastUse → ℕ
steps_past [] = 0
steps_past (last.Never ∷ uses) = steps_past uses
steps_past (last.Step n ∷ uses) = max (n + 1) (steps_past uses)
steps_past (last.Forever ∷ uses) = steps_past uses

-- the printed number of quasihalting is that of the last uses printed for the states; it is left out exactly
-- if none of them is a number
abbrev pub QuasihaltIsGreatestUse : Type 0
QuasihaltIsGreatestUse = (table : Table) (entries : Bool) (numbers : Numbers) → IsMachine table
    → AreNumbers table entries numbers
    → MatchOption numbers.quasihalt (steps_past numbers.states ≡ 0)
    (λ steps. (0 < steps) × (steps ≡ steps_past numbers.states))
