-- What stands at the places of a line, if it is the text of a machine with two symbols.
use Rattle.std.specs.Prelude.{◌≡◌, ℕ, ◌+◌, ◌*◌, List, drop, slice_index}
use Rattle.bb_machine.specs.declared.entry.Entry.{Entry}
use Rattle.bb_machine.specs.Entry.{entry_text, IsEntryOf}
use Rattle.bb_machine.specs.Column.{BeginsWith}

-- an entry of a machine with so many states
abbrev pub HasEntry : ℕ → List ℕ → ℕ → Type 0
HasEntry states line at = (e : Entry) × IsEntryOf states 2 e × BeginsWith (drop at line) (entry_text e)

-- the second entry of a row, and the first of the next one
pub record HasLink (states : ℕ) (line : List ℕ) (row : ℕ) : Type 0 where
  pub second : HasEntry states line (7 * row + 3)
  pub bar : slice_index line (7 * row + 6) ≡ 95
  pub next : HasEntry states line (7 * row + 7)
