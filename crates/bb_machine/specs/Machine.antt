-- A machine is seen as its table: a list with a group for each state, in order from state A, and in
-- each group an entry for each tape symbol, in order from symbol 0.
use Rattle.std.specs.Prelude.{◌≡◌, ℕ, ◌<◌, ◌≤◌, List, [], ◌∷◌, length, slice_index_or}
use Rattle.std.specs.List.{AllByRecursion, flat_map, join_by}
use Rattle.bb_machine.specs.declared.machine.TheConstants.{MAX_STATES, MAX_SYMBOLS}
use Rattle.bb_machine.specs.declared.entry.Entry.{Entry}
use Rattle.bb_machine.specs.declared.entry.Entry.TheVariants.{Undefined}
use Rattle.bb_machine.specs.Entry.{entry_text, IsEntryOf}

-- a machine's table: a group for each state, an entry for each symbol
abbrev pub Table : Type 0
Table = List (List Entry)

-- how many symbols a table is for: the length of its first group
abbrev pub symbols_of : Table → ℕ
symbols_of [] = 0
symbols_of (g ∷ gs) = length g

-- the entry for a state and a symbol, `Undefined` outside the table
abbrev pub entry_of : Table → ℕ → ℕ → Entry
entry_of gs state symbol = slice_index_or (slice_index_or gs state []) symbol Undefined

-- a group: an entry for each symbol, each naming only states and symbols of the machine
pub record IsGroup (states symbols : ℕ) (g : List Entry) : Type 0 where
  pub full : length g ≡ symbols
  pub entries : AllByRecursion (IsEntryOf states symbols) g

-- a table with 1 to `most_states` states and 2 to `most_symbols` symbols
pub record IsMachineWithin (most_states most_symbols : ℕ) (gs : Table) : Type 0 where
  pub some_state : 0 < length gs
  pub states : length gs ≤ most_states
  pub two_symbols : 2 ≤ symbols_of gs
  pub symbols : symbols_of gs ≤ most_symbols
  pub groups : AllByRecursion (IsGroup (length gs) (symbols_of gs)) gs

-- the tables that are machines here
abbrev pub IsMachine : Table → Type 0
IsMachine gs = IsMachineWithin MAX_STATES MAX_SYMBOLS gs

-- the entries of a group, one after another
abbrev pub group_text : List Entry → List ℕ
group_text g = flat_map entry_text g

-- the text of a table: its groups joined by `_`
abbrev pub text : Table → List ℕ
text gs = join_by group_text (95 ∷ []) gs

-- the line is the text of this machine
pub record IsTextOf (table : Table) (line : List ℕ) : Type 0 where
  pub machine : IsMachine table
  pub is_text : text table ≡ line

-- the line is some machine's text
abbrev pub IsMachineLine : List ℕ → Type 0
IsMachineLine line = (table : Table) × IsTextOf table line
