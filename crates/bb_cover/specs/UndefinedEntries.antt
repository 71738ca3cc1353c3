-- The `---` of a machine.
use Rattle.std.specs.Prelude.{◌≡◌, ◌≢◌, ℕ, ◌+◌, ◌<◌, List, [], ◌∷◌, length}
use Rattle.std.specs.Prelude.{Option, Some, None}
use Rattle.bb_machine.specs.declared.entry.Entry.{Entry}
use Rattle.bb_machine.specs.declared.entry.Entry.TheVariants.{Undefined, Go}
use Rattle.bb_machine.specs.Machine.{Table, entry_of, symbols_of}
use Rattle.laws_of_verdicts.specs.Closed.{VerdictLine}
use Rattle.laws_of_verdicts.specs.UndefinedEntry.{HaltsOnUndefined}
use Rattle.laws_of_verdicts.specs.Walk.{HaltsOnOneOf}
use Rattle.bb_cover.specs.declared.undefined.UndefinedEntry.{UndefinedEntry}

-- the machine has `---` for this state and this symbol, which isn't that one
abbrev pub IsOtherUndefined : Table → UndefinedEntry → ℕ → ℕ → Type 0
IsOtherUndefined table undefined state symbol =
    (entry_of table state symbol ≡ Undefined) × (state ≡ undefined.state → symbol ≢ undefined.symbol)

-- the machine has this one
pub record IsUndefinedOf (table : Table) (undefined : UndefinedEntry) : Type 0 where
  pub below : undefined.state < length table
  pub inside : undefined.symbol < symbols_of table
  pub is_undefined : entry_of table undefined.state undefined.symbol ≡ Undefined

-- on which `---` the machine halts after so many steps, if on any
abbrev pub HaltsOn : Table → ℕ → Option UndefinedEntry → Type 0
HaltsOn table steps None = (state symbol : ℕ) → HaltsOnUndefined table steps state symbol → ⊥
HaltsOn table steps (Some undefined) =
    HaltsOnUndefined table steps undefined.state undefined.symbol × IsUndefinedOf table undefined

-- on which of several `---` the line's machine halts, if on any
abbrev pub IsToFill : VerdictLine → Option UndefinedEntry → Type 0
IsToFill line None = (state symbol : ℕ) → HaltsOnOneOf line state symbol → ⊥
IsToFill line (Some undefined) =
    HaltsOnOneOf line undefined.state undefined.symbol × IsUndefinedOf line.table undefined

-- how many `---` there are

abbrev pub undefined_in : Entry → ℕ
undefined_in Undefined = 1
undefined_in (Go write dir to) = 0

abbrev pub undefined_entries_in : List Entry → ℕ
undefined_entries_in [] = 0
undefined_entries_in (entry ∷ entries) = undefined_in entry + undefined_entries_in entries

abbrev pub undefined_entries_of : Table → ℕ
undefined_entries_of [] = 0
undefined_entries_of (group ∷ groups) = undefined_entries_in group + undefined_entries_of groups
