-- Laws of verdict lines, of answers and of repeating runs.
use Rattle.std.specs.Prelude.{◌≡◌, ℕ, ◌+◌, ◌*◌, ◌<◌, ◌≤◌, ◌↔◌, List, pos, ◌<ℤ◌}
use Rattle.bb_machine.specs.Limits.{Bounds}
use Rattle.bb_machine.specs.declared.machine.TheConstants.{MAX_STATES, MAX_SYMBOLS}
use Rattle.bb_machine.specs.Machine.{Table, IsMachine, IsMachineWithin}
use Rattle.bb_sim.specs.Run.{Never}
use Rattle.bb_cert.specs.declared.checker.answer.Answer.{Answer}
use Rattle.bb_cert.specs.declared.verdict.reader.Line.{Line}
use Rattle.bb_cert.specs.declared.verdict.reader.Line.TheVariants.{Claim as claim_line, Refusal}
use Rattle.bb_cert.specs.declared.verdict.Side.{Side}
use Rattle.bb_cert.specs.declared.verdict.Side.TheVariants.{L, R}
use Rattle.bb_cert.specs.declared.verdict.Verdict.{Verdict}
use Rattle.bb_cert.specs.checker.Answer.{IsAnswer}
use Rattle.bb_cert.specs.claims.Claim.{Claim, SaysNever}
use Rattle.bb_cert.specs.verdict.Line.{IsLineOf, line_text, refusal_text}
use Rattle.bb_cert.specs.verdict.Verdict.{HasNumbers}
use Rattle.bb_cert.specs.claims.Repeat.{Same}
use Rattle.bb_cert.specs.records.Record.{out, head_at, IsRecord}
use Rattle.bb_cert.specs.records.Agree.{Agree, AgreeingRecords, GoesAlike}

-- different claims and columns have different lines
abbrev pub LinesDiffer : Type 0
LinesDiffer = (a b : Line) (bytes : List ℕ) → IsLineOf a bytes → IsLineOf b bytes → a ≡ b

-- the bytes are the line of a machine of at most so many states and symbols and a verdict, or of a column
-- that such machines alone give
abbrev pub IsLineWithin : ℕ → ℕ → Line → List ℕ → Type 0
IsLineWithin states symbols (claim_line table verdict) bytes =
    IsMachineWithin states symbols table × HasNumbers verdict × (line_text table verdict ≡ bytes)
IsLineWithin states symbols (Refusal column) bytes =
    (0 < column) × (column ≤ states * (3 * symbols + 1)) × (refusal_text column ≡ bytes)

-- a verdict line of fewer states and symbols than are allowed is a verdict line with the same meaning; so are
-- those of at most 7 states and 2 symbols, with columns up to 49
abbrev pub SmallerLinesAreLines : Type 0
SmallerLinesAreLines = (states symbols : ℕ) (said : Line) (bytes : List ℕ) → states ≤ MAX_STATES
    → symbols ≤ MAX_SYMBOLS → IsLineWithin states symbols said bytes → IsLineOf said bytes

-- from a configuration that comes again on, each one comes again
abbrev pub RepeatsGoOn : Type 0
RepeatsGoOn = (table : Table) (a b : ℕ) → a < b → Same table a b → (u : ℕ) → Same table (a + u) (b + u)

-- a machine with a configuration that comes again never halts
abbrev pub RepeatsNeverHalt : Type 0
RepeatsNeverHalt = (table : Table) (a b : ℕ) → a < b → Same table a b → Never table

-- from records that agree on, the run goes alike
abbrev pub AgreeingRecordsGoOn : Type 0
AgreeingRecordsGoOn = (table : Table) (side : Side) (a b : ℕ) → AgreeingRecords table side a b
    → (u : ℕ) → GoesAlike table side a b u

-- a machine with records that agree never halts
abbrev pub AgreeingRecordsNeverHalt : Type 0
AgreeingRecordsNeverHalt = (table : Table) (side : Side) (a b : ℕ) → AgreeingRecords table side a b
    → Never table

-- a record is made at one step
abbrev pub RecordHasOneStep : Type 0
RecordHasOneStep = (table : Table) (side : Side) (j n m : ℕ)
    → IsRecord table side j n → IsRecord table side j m → n ≡ m

-- at one step at most one record of a side is made
abbrev pub RecordHasOneNumber : Type 0
RecordHasOneNumber = (table : Table) (side : Side) (i j n : ℕ)
    → IsRecord table side i n → IsRecord table side j n → i ≡ j

-- no step makes a record of both sides
abbrev pub RecordHasOneSide : Type 0
RecordHasOneSide = (table : Table) (i j n : ℕ) → IsRecord table L i n → IsRecord table R j n → ⊥

-- records of a side come in the order of their numbers
abbrev pub RecordsInOrder : Type 0
RecordsInOrder = (table : Table) (side : Side) (i j n m : ℕ)
    → IsRecord table side i n → IsRecord table side j m → (i < j) ↔ (n < m)

-- where there is a record, there are all of lower numbers, at steps no later
abbrev pub LowerRecordsExist : Type 0
LowerRecordsExist = (table : Table) (side : Side) (i j n : ℕ) → 0 < i → i ≤ j
    → IsRecord table side j n → (m : ℕ) × (m ≤ n) × IsRecord table side i m

-- before a record the head is less far out
abbrev pub ShortOfRecord : Type 0
ShortOfRecord = (table : Table) (side : Side) (j n : ℕ)
    → IsRecord table side j n → (m : ℕ) → m < n → out side (head_at table m) <ℤ pos j

-- a record is made no sooner than its number of steps
abbrev pub RecordTakesSteps : Type 0
RecordTakesSteps = (table : Table) (side : Side) (j n : ℕ) → IsRecord table side j n → j ≤ n

-- where a configuration comes again p steps later, each later one does too
abbrev pub RepeatsKeepDistance : Type 0
RepeatsKeepDistance = (table : Table) (a p k : ℕ) → 0 < p → Same table a (a + p)
    → Same table (a + k) (a + k + p)

-- where two records of a side agree, the side has every record
abbrev pub HasRecord : Type 0
HasRecord = (table : Table) (side : Side) (a b j : ℕ) → AgreeingRecords table side a b → 0 < j
    → (n : ℕ) × IsRecord table side j n

-- where records i and i + r of a side agree, later ones at this distance exist and agree
abbrev pub RecordPair : Type 0
RecordPair = (table : Table) (side : Side) (i r a b j : ℕ) → 0 < r → IsRecord table side i a
    → IsRecord table side (i + r) b → Agree table side a b → i ≤ j
    → (n : ℕ) × (m : ℕ) × IsRecord table side j n × IsRecord table side (j + r) m × Agree table side n m

-- from the step on at which a configuration comes again, no record is made
abbrev pub RepeatsMakeNoRecord : Type 0
RepeatsMakeNoRecord = (table : Table) (side : Side) (a b j n : ℕ) → a < b → Same table a b
    → IsRecord table side j n → n < b

-- a run with records that agree has no configuration twice
abbrev pub AgreeingRecordsNeverRepeat : Type 0
AgreeingRecordsNeverRepeat = (table : Table) (side : Side) (a b c d : ℕ) → AgreeingRecords table side a b
    → c < d → Same table c d → ⊥

-- a claim of never halting is true
abbrev pub ClaimsNeverHalt : Type 0
ClaimsNeverHalt = (table : Table) (verdict : Verdict) → IsMachine table → SaysNever verdict
    → Claim table verdict → Never table

-- no verdict has two answers
abbrev pub AnswerIsUnique : Type 0
AnswerIsUnique = (table : Table) (bounds : Bounds) (verdict : Verdict) (a b : Answer)
    → IsAnswer table bounds verdict a → IsAnswer table bounds verdict b → a ≡ b
