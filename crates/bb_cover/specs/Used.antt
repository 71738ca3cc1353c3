-- Which states and symbols an entry, and a row, need.
use Rattle.std.specs.Prelude.{ℕ, ◌<◌, ◌≢◌}
use Rattle.bb_machine.specs.declared.entry.Entry.{Entry}
use Rattle.bb_machine.specs.declared.entry.Entry.TheVariants.{Undefined}
use Rattle.bb_machine.specs.Entry.{IsEntryOf}
use Rattle.bb_machine.specs.Machine.{Table, entry_of, symbols_of}

-- the entry, and the state and symbol for which it stands, are of the first so many
pub record NeedsEntry (states symbols q s : ℕ) (entry : Entry) : Type 0 where
  pub named : IsEntryOf states symbols entry
  pub for_these : entry ≢ Undefined → (q < states) × (s < symbols)

-- so are those of a row
abbrev pub NeedsRow : (states symbols : ℕ) → Table → ℕ → Type 0
NeedsRow states symbols table q =
    (s : ℕ) → s < symbols_of table → NeedsEntry states symbols q s (entry_of table q s)
