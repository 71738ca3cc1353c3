-- What the reader of a machine's text has read so far. No public contract speaks of it.
use Rattle.std.specs.Prelude.{◌≡◌, ℕ, ◌+◌, ◌<◌, ◌≤◌, List, [], ◌∷◌, ◌++◌, ◌↔◌, length, take}
use Rattle.std.specs.List.{AllByRecursion, flat_map}
use Rattle.bb_machine.specs.declared.machine.TheConstants.{MAX_STATES, MAX_SYMBOLS}
use Rattle.bb_machine.specs.declared.entry.Entry.{Entry}
use Rattle.bb_machine.specs.Entry.{entry_text, IsEntryOf}
use Rattle.bb_machine.specs.Machine.{IsGroup, group_text}
use Rattle.bb_machine.specs.declared.machine.reader.Draft.{Draft}
use Rattle.bb_machine.specs.Column.{BeginsWith, IsViableWithin}

-- the groups that a `_` has closed, and the entries of the group at work, which is after them
pub record Begun : Type 0 where
  pub groups : List (List Entry)
  pub group : List Entry

-- the bytes that were read
abbrev pub begun_text : Begun → List ℕ
begun_text b = flat_map (λ g. group_text g ++ 95 ∷ []) b.groups ++ group_text b.group

-- how many symbols the machine can have: as many as the first group has entries, once it is closed
abbrev pub symbols_limit : ℕ → List (List Entry) → ℕ
symbols_limit most [] = most
symbols_limit most (g ∷ gs) = length g

-- a machine of at most so many states and symbols can still follow
pub record IsBegunWithin (most_states most_symbols : ℕ) (b : Begun) : Type 0 where
  pub room : length b.groups < most_states
  pub two_symbols : 2 ≤ symbols_limit most_symbols b.groups
  pub symbols : symbols_limit most_symbols b.groups ≤ most_symbols
  pub groups : AllByRecursion (IsGroup most_states (symbols_limit most_symbols b.groups)) b.groups
  pub fits : length b.group ≤ symbols_limit most_symbols b.groups
  pub entries : AllByRecursion (IsEntryOf most_states (symbols_limit most_symbols b.groups)) b.group

abbrev pub IsBegun : Begun → Type 0
IsBegun b = IsBegunWithin MAX_STATES MAX_SYMBOLS b

-- the entries that were read, one after another
abbrev pub begun_entries : Begun → List Entry
begun_entries b = flat_map (λ g. g) b.groups ++ b.group

-- the draft counts what was read, and names the fewest symbols that all its entries allow
pub record IsDraft (d : Draft) (b : Begun) : Type 0 where
  pub begun : IsBegun b
  pub states_is : length b.groups + 1 ≡ d.states
  pub symbols_is : symbols_limit MAX_SYMBOLS b.groups ≡ d.symbols
  pub filled_is : length b.group ≡ d.filled
  pub named : (symbols : ℕ) → AllByRecursion (IsEntryOf MAX_STATES symbols) (begun_entries b)
      ↔ (d.named_symbols ≤ symbols)

-- the group can be closed: it is as long as the groups before it, and the first one has two or
-- more entries, which write only as many symbols
abbrev pub IsWholeWithin : ℕ → List (List Entry) → List Entry → Type 0
IsWholeWithin most_states [] group =
    (2 ≤ length group) × AllByRecursion (IsEntryOf most_states (length group)) group
IsWholeWithin most_states (g ∷ gs) group = length group ≡ length g

abbrev pub IsWhole : Begun → Type 0
IsWhole b = IsWholeWithin MAX_STATES b.groups b.group

-- the table with the group at work as its last one
abbrev pub table_of : Begun → List (List Entry)
table_of b = b.groups ++ b.group ∷ []

-- of `bytes`, which come after `before`, the first `n` are the most with which some machine's text
-- goes on
pub record IsStopWithin (most_states most_symbols : ℕ) (before bytes : List ℕ) (n : ℕ) : Type 0 where
  pub within : n ≤ length bytes
  pub holds : IsViableWithin most_states most_symbols (before ++ take n bytes)
  pub longest : (m : ℕ) → m ≤ length bytes
      → IsViableWithin most_states most_symbols (before ++ take m bytes) → m ≤ n

abbrev pub IsStop : List ℕ → List ℕ → ℕ → Type 0
IsStop before bytes n = IsStopWithin MAX_STATES MAX_SYMBOLS before bytes n

-- the first bytes of an entry's text
abbrev pub BeginsEntry : ℕ → ℕ → List ℕ → Type 0
BeginsEntry states symbols prefix =
    (e : Entry) × IsEntryOf states symbols e × BeginsWith (entry_text e) prefix

-- the first `n` of `bytes` begin an entry's text but are not all of it, and the first `n + 1` begin none
pub record IsEntryStop (states symbols : ℕ) (bytes : List ℕ) (n : ℕ) : Type 0 where
  pub within : n ≤ length bytes
  pub part : n < 3
  pub holds : BeginsEntry states symbols (take n bytes)
  pub longest : n < length bytes → BeginsEntry states symbols (take (n + 1) bytes) → ⊥
