-- The parts of a reply, as they are appended.
use Rattle.std.specs.Prelude.{◌≡◌, ℕ, Bool, List, ◌++◌}
use Rattle.bb_machine.specs.Machine.{Table, text}
use Rattle.bb_cert.specs.declared.checker.answer.Answer.TheVariants.{Open}
use Rattle.bb_cert.specs.checker.Answer.{answer_text}
use Rattle.laws_of_recurrence.specs.Recurrence.{RepeatsExactly}
use Rattle.laws_of_recurrence.specs.Shift.{IsShift}
use Rattle.laws_of_recurrence.specs.Uses.{TablePart}
use Rattle.bb_recurrence.specs.declared.recurrence.Recurrence.{Recurrence}
use Rattle.bb_recurrence.specs.declared.uses.LastUses.{LastUses}
use Rattle.bb_recurrence.specs.declared.verdict.Finding.{Finding}
use Rattle.bb_recurrence.specs.declared.verdict.Finding.TheVariants.{Answered, NoPair, Recurs}
use Rattle.bb_recurrence.specs.LastUses.{AreSeenWhole}
use Rattle.bb_recurrence.specs.declared.uses.LastUse.{LastUse}
use Rattle.bb_recurrence.specs.Parts.{AreUses}
use Rattle.bb_recurrence.specs.RecurrenceReply.{AreNumbers, Numbers, recurrence_text, uses_text}

-- the line begins with the text of the machine
abbrev pub BeginsWith : Table → List ℕ → Type 0
BeginsWith table line = (rest : List ℕ) × (line ≡ text table ++ rest)

-- the last uses of these parts were appended
pub record AppendsUses (table : Table) (parts : List TablePart) (old new : List ℕ) : Type 0 where
  pub uses : List LastUse
  pub are_uses : AreUses table parts uses
  pub is_text : new ≡ old ++ uses_text uses

-- a text is that of a machine and its numbers
pub record IsNumbersText (table : Table) (entries : Bool) (text : List ℕ) : Type 0 where
  pub numbers : Numbers
  pub are_numbers : AreNumbers table entries numbers
  pub is_text : text ≡ recurrence_text table entries numbers

-- the numbers to write are those of the run: it repeats exactly so, and the uses of a first period are seen
pub record IsKnownRecurrence (table : Table) (uses : LastUses) (found : Recurrence) : Type 0 where
  pub exact : RepeatsExactly table found.start found.period
  pub shift : IsShift table found.start found.period found.shift
  pub seen : AreSeenWhole table found.start uses

abbrev pub IsKnown : Table → LastUses → Finding → Type 0
IsKnown table uses (Recurs found) = IsKnownRecurrence table uses found
IsKnown table uses (Answered answer) = Unit {0}
IsKnown table uses NoPair = Unit {0}

-- a text is that of a result
abbrev pub IsFindingText : Table → Bool → Finding → List ℕ → Type 0
IsFindingText table entries (Recurs found) reply = IsNumbersText table entries reply
IsFindingText table entries (Answered answer) reply = reply ≡ answer_text answer
IsFindingText table entries NoPair reply = reply ≡ answer_text Open
