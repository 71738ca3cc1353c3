-- Laws of texts and columns.
use Rattle.std.specs.Prelude.{◌≡◌, ℕ, ◌<◌, ◌≤◌, ◌↔◌, List, take}
use Rattle.bb_machine.specs.declared.machine.TheConstants.{LINE, MAX_STATES, MAX_SYMBOLS}
use Rattle.bb_machine.specs.Machine.{Table, IsMachine, IsMachineWithin, text}
use Rattle.bb_machine.specs.Column.{IsColumn}

-- different machines have different texts
abbrev pub TextsDiffer : Type 0
TextsDiffer = (a b : Table) → IsMachine a → IsMachine b → text a ≡ text b → a ≡ b

-- no line has two columns
abbrev pub ColumnIsUnique : Type 0
ColumnIsUnique = (line : List ℕ) (a b : ℕ) → IsColumn line a → IsColumn line b → a ≡ b

-- only the first bytes of a line matter, if they are more than the longest text has: they are a machine's
-- text exactly if the whole line is, and they have the line's column
pub record PrefixIsEnough (line : List ℕ) (kept : ℕ) : Type 0 where
  pub same_text : (gs : Table) → IsMachine gs → (text gs ≡ take kept line) ↔ (text gs ≡ line)
  pub same_column : (column : ℕ) → IsColumn (take kept line) column ↔ IsColumn line column

abbrev pub LongPrefixesAreEnough : Type 0
LongPrefixesAreEnough = (line : List ℕ) (kept : ℕ) → LINE < kept → PrefixIsEnough line kept

-- a machine of fewer states and symbols than are allowed is a machine; so one of at most 7 states and 2
-- symbols is one, and its text is the same
abbrev pub SmallerMachinesAreMachines : Type 0
SmallerMachinesAreMachines = (most_states most_symbols : ℕ) (gs : Table) → most_states ≤ MAX_STATES
    → most_symbols ≤ MAX_SYMBOLS → IsMachineWithin most_states most_symbols gs → IsMachine gs
