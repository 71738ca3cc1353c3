-- Lists of verdicts that settle every machine of a size: the conditions on such a list, line by line, and
-- their consequence. These notions are this project's own.
use Rattle.std.specs.Prelude.{◌≡◌, ◌⊎◌, ℕ, ◌+◌, ◌<◌, ◌≤◌, List, [], length, replicate}
use Rattle.std.specs.Prelude.{slice_index_or, slice_set, Contains}
use Rattle.bb_machine.specs.declared.entry.Dir.{Dir}
use Rattle.bb_machine.specs.declared.entry.Entry.{Entry}
use Rattle.bb_machine.specs.declared.entry.Entry.TheVariants.{Undefined, Go}
use Rattle.bb_machine.specs.declared.entry.Next.TheVariants as next
use Rattle.bb_machine.specs.Machine.{Table, IsMachine, entry_of, symbols_of}
use Rattle.bb_sim.specs.Run.{Never}
use Rattle.bb_cert.specs.declared.verdict.Verdict.{Verdict}
use Rattle.bb_cert.specs.declared.verdict.Verdict.TheVariants.{Halt, Cycler, Translated, Backward, Undecided}
use Rattle.bb_cert.specs.declared.verdict.Why.{Why}
use Rattle.bb_cert.specs.claims.Claim.{Claim}
use Rattle.laws_of_verdicts.specs.Change.{Change, IsChanged}
use Rattle.laws_of_verdicts.specs.Completion.{IsCompletion}
use Rattle.laws_of_verdicts.specs.UndefinedEntry.{HaltsNext, HaltsOnUndefined, HasOtherUndefined}

-- a line: a machine and a verdict on it
pub record VerdictLine : Type 0 where
  pub table : Table
  pub verdict : Verdict

-- the machine of so many states and symbols with no entry but `---`
abbrev pub blank_table : ℕ → ℕ → Table
blank_table states symbols = replicate states (replicate symbols Undefined)

-- the machine with that entry for that state and symbol, and its own for all others
abbrev pub with_entry : Table → ℕ → ℕ → Entry → Table
with_entry table state symbol entry =
    slice_set table state (slice_set (slice_index_or table state []) symbol entry)

-- the list has the machine, up to a change, in some line
pub record HasMachine (lines : List VerdictLine) (table : Table) : Type 0 where
  pub line : VerdictLine
  pub listed : Contains lines line
  pub change : Change
  pub is_changed : IsChanged change line.table table

-- the lines are true; and where the list has a machine that halts on one of several `---`, it has, up to a
-- change, that machine with this `---` filled, by each entry that doesn't lead into Z
pub record IsClosed (lines : List VerdictLine) : Type 0 where
  pub machines : (line : VerdictLine) → Contains lines line → IsMachine line.table
  pub claims : (line : VerdictLine) → Contains lines line → Claim line.table line.verdict
  pub goes_on : (line : VerdictLine) (steps score state symbol write to : ℕ) (dir : Dir)
      → Contains lines line → line.verdict ≡ Halt steps score → HaltsOnUndefined line.table steps state symbol
      → HasOtherUndefined line.table state symbol → write < symbols_of line.table → to < length line.table
      → HasMachine lines (with_entry line.table state symbol (Go write dir (next.State to)))

-- the list is closed and has, up to a change, the machine of so many states and symbols with no entry
pub record Covers (lines : List VerdictLine) (states symbols : ℕ) : Type 0 where
  pub closed : IsClosed lines
  pub has_root : HasMachine lines (blank_table states symbols)

-- the behaviour of a machine with this entry, if the machine it completes halts on a `---`
abbrev pub FromUndefined : Table → (steps score symbol : ℕ) → Entry → Type 0
FromUndefined machine steps score symbol Undefined = Claim machine (Halt steps score)
FromUndefined machine steps score symbol (Go write dir next.Halt) = HaltsNext machine steps score symbol write
FromUndefined machine steps score symbol (Go write dir (next.State to)) = Never machine

pub record FillsUndefined (table machine : Table) (steps score : ℕ) : Type 0 where
  pub state : ℕ
  pub symbol : ℕ
  pub undefined : HaltsOnUndefined table steps state symbol
  pub does : FromUndefined machine steps score symbol (entry_of machine state symbol)

-- the consequence of a verdict on a machine for a completion: none if it is undecided
abbrev pub Settles : Table → Verdict → Table → Type 0
Settles table (Halt steps score) machine = FillsUndefined table machine steps score
Settles table (Cycler first second) machine = Never machine
Settles table (Translated side first second extent) machine = Never machine
Settles table (Backward levels nodes) machine = Never machine
Settles table (Undecided why) machine = Unit {0}

-- the machine completes one that the list has, up to a change, and which settles it
pub record IsSettled (lines : List VerdictLine) (machine : Table) : Type 0 where
  pub line : VerdictLine
  pub listed : Contains lines line
  pub change : Change
  pub changed : Table
  pub is_changed : IsChanged change line.table changed
  pub completes : IsCompletion changed machine
  pub settles : Settles changed line.verdict machine

-- so a list that covers a size settles every machine of that size, but for the completions of the machines of
-- its undecided lines
abbrev pub CoversSettle : Type 0
CoversSettle = (lines : List VerdictLine) (machine : Table) → IsMachine machine
    → Covers lines (length machine) (symbols_of machine) → IsSettled lines machine

-- the machine halts, at most one step later than one of the list, with at most one cell more that isn't 0
pub record HaltsSoon (lines : List VerdictLine) (machine : Table) : Type 0 where
  pub line : VerdictLine
  pub listed : Contains lines line
  pub steps : ℕ
  pub score : ℕ
  pub says : line.verdict ≡ Halt steps score
  pub new_steps : ℕ
  pub new_score : ℕ
  pub claim : Claim machine (Halt new_steps new_score)
  pub soon : new_steps ≤ steps + 1
  pub few : new_score ≤ score + 1

-- the machine completes one of an undecided line, up to a change
pub record IsLeftOpen (lines : List VerdictLine) (machine : Table) : Type 0 where
  pub line : VerdictLine
  pub listed : Contains lines line
  pub why : Why
  pub says : line.verdict ≡ Undecided why
  pub change : Change
  pub changed : Table
  pub is_changed : IsChanged change line.table changed
  pub completes : IsCompletion changed machine

-- for short: each machine of a covered size halts soon, never halts, or is left open
abbrev pub CoversDecide : Type 0
CoversDecide = (lines : List VerdictLine) (machine : Table) → IsMachine machine
    → Covers lines (length machine) (symbols_of machine)
    → HaltsSoon lines machine ⊎ (Never machine ⊎ IsLeftOpen lines machine)
