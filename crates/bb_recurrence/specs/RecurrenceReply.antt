-- The reply to a verdict line: this project's own.
use Rattle.std.specs.Prelude.{◌≡◌, ◌≢◌, ℕ, ◌⊎◌, Bool, true, false, List, [], ◌++◌, length, codes, decimal}
use Rattle.std.specs.Prelude.{flat_map, Option, Some, None, MatchOption, ℤ}
use Rattle.std.specs.Fmt.{signed_decimal}
use Rattle.bb_machine.specs.Limits.{Bounds}
use Rattle.bb_machine.specs.Machine.{Table, symbols_of, text}
use Rattle.bb_cert.specs.declared.checker.answer.Answer.{Answer}
use Rattle.bb_cert.specs.declared.checker.answer.Answer.TheVariants.{Ok, Open}
use Rattle.bb_cert.specs.declared.verdict.reader.Line.{Line}
use Rattle.bb_cert.specs.declared.verdict.reader.Line.TheVariants.{Claim, Refusal}
use Rattle.bb_cert.specs.declared.verdict.Verdict.{Verdict}
use Rattle.bb_cert.specs.checker.Answer.{IsAnswer, answer_text}
use Rattle.bb_cert.specs.verdict.Line.{IsLineOf}
use Rattle.bb_run.specs.CheckReply.{IsUnread}
use Rattle.laws_of_recurrence.specs.Recurrence.{RepeatsExactly}
use Rattle.laws_of_recurrence.specs.Shift.{IsShift}
use Rattle.laws_of_recurrence.specs.Uses.{IsQuasihalt, TablePart}
use Rattle.bb_recurrence.specs.declared.uses.LastUse.{LastUse}
use Rattle.bb_recurrence.specs.declared.uses.LastUse.TheVariants as last
use Rattle.bb_recurrence.specs.Finding.{IsPair, NamesNone}
use Rattle.bb_recurrence.specs.Parts.{AreUses, entries_before, states_before}

-- the numbers of a run that repeats, as they are printed
pub record Numbers : Type 0 where
  pub start : ℕ
  pub period : ℕ
  pub shift : ℤ
  pub states : List LastUse
  pub quasihalt : Option ℕ
  pub entries : List LastUse

-- the entries whose last uses are printed: all in the table's order, or none
abbrev pub printed_entries : Bool → Table → List TablePart
printed_entries false table = []
printed_entries true table = entries_before (symbols_of table) (length table)

-- the numbers are those of the machine
pub record AreNumbers (table : Table) (with_entries : Bool) (numbers : Numbers) : Type 0 where
  pub exact : RepeatsExactly table numbers.start numbers.period
  pub shift : IsShift table numbers.start numbers.period numbers.shift
  pub states : AreUses table (states_before (length table)) numbers.states
  pub quasihalt : MatchOption numbers.quasihalt ((steps : ℕ) → IsQuasihalt table steps → ⊥)
      (λ steps. IsQuasihalt table steps)
  pub entries : AreUses table (printed_entries with_entries table) numbers.entries

-- a last use
abbrev pub use_text : LastUse → List ℕ
use_text last.Never = codes "-"
use_text (last.Step n) = decimal n
use_text last.Forever = codes "*"

-- last uses, each after a space
abbrev pub uses_text : List LastUse → List ℕ
uses_text uses = flat_map (λ last. codes " " ++ use_text last) uses

-- the start, the period and the shift
abbrev pub numbers_text : ℕ → ℕ → ℤ → List ℕ
numbers_text start period shift =
    codes " recurs " ++ decimal start ++ codes " " ++ decimal period ++ codes " " ++ signed_decimal shift

-- the steps after which the machine quasihalts, if it does
abbrev pub quasihalt_text : Option ℕ → List ℕ
quasihalt_text None = []
quasihalt_text (Some steps) = codes " quasihalts " ++ decimal steps

-- the last uses of the entries, if they are printed
abbrev pub entries_text : Bool → List LastUse → List ℕ
entries_text false uses = []
entries_text true uses = codes " entries" ++ uses_text uses

-- a machine and its numbers, without a newline
abbrev pub recurrence_text : Table → Bool → Numbers → List ℕ
recurrence_text table entries numbers = text table
    ++ numbers_text numbers.start numbers.period numbers.shift ++ uses_text numbers.states
    ++ quasihalt_text numbers.quasihalt ++ entries_text entries numbers.entries

-- the line is that of a pair that the checker confirms, and the reply that of the machine's numbers
pub record IsNumbersReply (bounds : Bounds) (entries : Bool) (line reply : List ℕ) : Type 0 where
  pub table : Table
  pub verdict : Verdict
  pub of : IsLineOf (Claim table verdict) line
  pub pair : IsPair verdict
  pub is_ok : IsAnswer table bounds verdict Ok
  pub numbers : Numbers
  pub are_numbers : AreNumbers table entries numbers
  pub is_reply : reply ≡ recurrence_text table entries numbers

-- the line is that of a pair that the checker answers otherwise, and the reply is the word of that
pub record IsAnsweredReply (bounds : Bounds) (line reply : List ℕ) : Type 0 where
  pub table : Table
  pub verdict : Verdict
  pub of : IsLineOf (Claim table verdict) line
  pub pair : IsPair verdict
  pub given : Answer
  pub not_ok : given ≢ Ok
  pub is_answer : IsAnswer table bounds verdict given
  pub is_reply : reply ≡ answer_text given

-- a line's content has no pair
abbrev pub ClaimsNoPair : Line → Type 0
ClaimsNoPair (Claim table verdict) = NamesNone verdict
ClaimsNoPair (Refusal column) = Unit {0}

-- the line is that of another verdict, or of a refusal
pub record IsNoPairReply (line reply : List ℕ) : Type 0 where
  pub said : Line
  pub of : IsLineOf said line
  pub no_pair : ClaimsNoPair said
  pub is_reply : reply ≡ answer_text Open

-- a reply; the last case is that of a line that is no verdict line
abbrev pub IsRecurrenceReply : Bounds → Bool → List ℕ → List ℕ → Type 0
IsRecurrenceReply bounds entries line reply = IsNumbersReply bounds entries line reply
    ⊎ (IsAnsweredReply bounds line reply ⊎ (IsNoPairReply line reply ⊎ IsUnread line reply))
