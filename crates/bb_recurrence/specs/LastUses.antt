-- The last use of a part of a table, and the knowledge of it after some steps. The notions of a use are those
-- of `laws_of_recurrence`.
use Rattle.std.specs.Prelude.{◌≡◌, ℕ, ◌+◌, ◌*◌, ◌<◌, ◌≤◌, length, slice_index_or}
use Rattle.bb_machine.specs.declared.entry.Next.TheVariants.{State}
use Rattle.bb_machine.specs.declared.machine.TheConstants.{MAX_SYMBOLS}
use Rattle.bb_machine.specs.Machine.{Table, symbols_of}
use Rattle.laws_of_recurrence.specs.Recurrence.{Repeats}
use Rattle.laws_of_recurrence.specs.Uses.{IsLastUse, NeverUses, TablePart, Uses, UsesForEver}
use Rattle.laws_of_recurrence.specs.Uses.{of_transition}
use Rattle.bb_recurrence.specs.declared.uses.LastUse.{LastUse}
use Rattle.bb_recurrence.specs.declared.uses.LastUse.TheVariants as last
use Rattle.bb_recurrence.specs.declared.uses.LastUses.{LastUses}
use Rattle.bb_recurrence.specs.History.{IsRecorded}

-- the entry for a state and a symbol, as a part of a table
abbrev pub of_entry : ℕ → ℕ → TablePart
of_entry state symbol = of_transition (record { state = State state; symbol = symbol })

-- when a part is used for the last time
abbrev pub IsUse : Table → TablePart → LastUse → Type 0
IsUse table part last.Never = NeverUses table part
IsUse table part (last.Step n) = IsLastUse table part n
IsUse table part last.Forever = UsesForEver table part

-- before step n, `after` is the step after the last use of a part, 0 without one
pub record IsSeenUse (table : Table) (part : TablePart) (n after : ℕ) : Type 0 where
  pub no_later : after ≤ n
  pub here : (m : ℕ) → after ≡ m + 1 → Uses table part m
  pub none : (m : ℕ) → after ≤ m → m < n → Uses table part m → ⊥

-- the last uses of a table's entries, of the steps before n
abbrev pub AreSeen : Table → ℕ → LastUses → Type 0
AreSeen table n uses = (q s : ℕ) → q < length table → s < symbols_of table
    → IsSeenUse table (of_entry q s) n (slice_index_or uses.after (MAX_SYMBOLS * q + s) 0)

-- the steps before step n are recorded, and their entries if they are at most 4,096
pub record AreRecorded (table : Table) (n : ℕ) (uses : LastUses) : Type 0 where
  pub seen : AreSeen table n uses
  pub entries : n ≤ 4096 → IsRecorded table n uses.history

-- what is recorded up to one step is recorded up to a later one
abbrev pub RecordsOn : Table → ℕ → ℕ → LastUses → LastUses → Type 0
RecordsOn table from to old new = AreRecorded table from old → AreRecorded table to new

-- the run repeats from `start` on, and these are the last uses of the steps up to the end of a first period
-- or later
pub record AreSeenWhole (table : Table) (start : ℕ) (uses : LastUses) : Type 0 where
  pub period : ℕ
  pub made : ℕ
  pub repeats : Repeats table start period
  pub whole : start + period ≤ made
  pub seen : AreSeen table made uses

-- the last use by a run that repeats from `start` on, from the step after the last use seen, 0 without one
abbrev pub IsUseBy : ℕ → ℕ → LastUse → Type 0
IsUseBy after start last.Never = after ≡ 0
IsUseBy after start (last.Step n) = (after ≡ n + 1) × (after ≤ start)
IsUseBy after start last.Forever = start < after
