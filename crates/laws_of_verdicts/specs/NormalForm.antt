-- Lists in tree normal form: of the machines that differ by a change alone one is enough. That such a list is
-- closed is what makes it enough. These notions are this project's own.
use Rattle.std.specs.Prelude.{◌≡◌, ◌≢◌, ◌⊎◌, ℕ, ◌<◌, ◌≤◌, List, length, Contains}
use Rattle.bb_machine.specs.declared.entry.Dir.{Dir}
use Rattle.bb_machine.specs.declared.entry.Dir.TheVariants as dir
use Rattle.bb_machine.specs.declared.entry.Entry.TheVariants.{Undefined, Go}
use Rattle.bb_machine.specs.declared.entry.Next.TheVariants as next
use Rattle.bb_machine.specs.Entry.{IsEntryOf}
use Rattle.bb_machine.specs.Machine.{Table, IsMachine, entry_of, symbols_of}
use Rattle.bb_cert.specs.declared.verdict.Verdict.TheVariants.{Halt}
use Rattle.bb_cert.specs.claims.Claim.{Claim}
use Rattle.laws_of_verdicts.specs.Closed.{Covers, VerdictLine, blank_table, with_entry}
use Rattle.laws_of_verdicts.specs.UndefinedEntry.{HaltsOnUndefined, HasOtherUndefined}

-- the machine has entries for the first so many states and symbols alone, and they name these alone
pub record UsesFirst (table : Table) (states symbols : ℕ) : Type 0 where
  pub some_state : 0 < states
  pub some_symbol : 0 < symbols
  pub named : (q s : ℕ) → IsEntryOf states symbols (entry_of table q s)
  pub for_these : (q s : ℕ) → entry_of table q s ≢ Undefined → (q < states) × (s < symbols)

-- it has no entry
abbrev pub IsEmpty : Table → Type 0
IsEmpty table = (q s : ℕ) → entry_of table q s ≡ Undefined

-- the list has just this machine
pub record Lists (lines : List VerdictLine) (table : Table) : Type 0 where
  pub line : VerdictLine
  pub listed : Contains lines line
  pub is_table : line.table ≡ table

-- the machines required below each machine: with this undefined entry filled by an entry that leads to a
-- state and names at most the first unused state and symbol; but to the left only if the machine has an entry
pub record Asks (table : Table) (state symbol : ℕ) (Has : Table → Type 0) : Type 0 where
  pub states : ℕ
  pub symbols : ℕ
  pub uses : UsesFirst table states symbols
  pub each : (write to : ℕ) (move : Dir) → write < symbols_of table → write ≤ symbols → to < length table
      → to ≤ states
      → Has (with_entry table state symbol (Go write move (next.State to)))
      ⊎ ((move ≡ dir.L) × IsEmpty table)

-- the lines are true, and each machine that halts on one of several `---` goes on so
pub record IsInNormalForm (lines : List VerdictLine) (states symbols : ℕ) : Type 0 where
  pub has_root : Lists lines (blank_table states symbols)
  pub machines : (line : VerdictLine) → Contains lines line → IsMachine line.table
  pub claims : (line : VerdictLine) → Contains lines line → Claim line.table line.verdict
  pub goes_on : (line : VerdictLine) (steps score state symbol : ℕ) → Contains lines line
      → line.verdict ≡ Halt steps score → HaltsOnUndefined line.table steps state symbol
      → HasOtherUndefined line.table state symbol → Asks line.table state symbol (Lists lines)

-- a list in normal form covers its size
abbrev pub NormalFormCovers : Type 0
NormalFormCovers = (lines : List VerdictLine) (states symbols : ℕ) → IsInNormalForm lines states symbols
    → Covers lines states symbols
