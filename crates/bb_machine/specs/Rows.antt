-- How a table is stored: a small one in two numbers, another in a flat list, each row at a multiple of the stride,
-- in its first slots.
use Rattle.std.specs.Prelude.{◌≡◌, ℕ, zero, suc, List, [], ◌∷◌, length, map, take, drop, ℤ, pos, negsuc}
use Rattle.std.specs.Prelude.{Bool, cond, false, nat_eq, nat_le, IsTrue}
use Rattle.bb_machine.specs.declared.machine.TheConstants.{STRIDE}
use Rattle.bb_machine.specs.declared.machine.Kind.{Kind}
use Rattle.bb_machine.specs.declared.machine.Kind.TheVariants as kind
use Rattle.bb_machine.specs.declared.machine.Slot.{Slot}
use Rattle.bb_machine.specs.declared.entry.Dir.{Dir}
use Rattle.bb_machine.specs.declared.entry.Dir.TheVariants.{L, R}
use Rattle.bb_machine.specs.declared.entry.Next.TheVariants.{State, Halt}
use Rattle.bb_machine.specs.declared.entry.Entry.{Entry}
use Rattle.bb_machine.specs.declared.entry.Entry.TheVariants.{Undefined, Go}
use Rattle.bb_machine.specs.declared.packed.PackedTable.{PackedTable}
use Rattle.bb_machine.specs.Machine.{IsMachine, symbols_of}
use Rattle.bb_machine.specs.Packed.{IsTableOf, unpacked}

-- the first `width` elements of each of the first `count` rows
abbrev pub rows : {X : Type 0} → ℕ → ℕ → ℕ → List X → List (List X)
rows stride zero width xs = []
rows stride (suc count) width xs = take width xs ∷ rows stride count width (drop stride xs)

-- left is below 0
abbrev pub direction : ℤ → Dir
direction (pos n) = R
direction (negsuc n) = L

-- the entry of a kind, with what it writes, where it moves and the state that it goes to, if it does
abbrev pub entry_of_kind : Kind → ℕ → ℤ → ℕ → Entry
entry_of_kind kind.Undefined write offset state = Undefined
entry_of_kind kind.State write offset state = Go write (direction offset) (State state)
entry_of_kind kind.Halt write offset state = Go write (direction offset) Halt

-- the entry in a slot
abbrev pub entry_in : Slot → Entry
entry_in slot = entry_of_kind slot.kind slot.write slot.offset slot.state

abbrev pub entries_in : List Slot → List Entry
entries_in slots = map entry_in slots

-- the table of so many states and symbols that stands in the slots
abbrev pub table_in : ℕ → ℕ → List Slot → List (List Entry)
table_in states symbols slots = rows STRIDE states symbols (entries_in slots)

-- a machine's table, with as many states and symbols as are counted
pub record IsTable (states symbols : ℕ) (gs : List (List Entry)) : Type 0 where
  pub machine : IsMachine gs
  pub states_is : length gs ≡ states
  pub symbols_is : symbols_of gs ≡ symbols

-- whether a table of so many states and symbols is stored in two numbers
abbrev pub is_small : ℕ → ℕ → Bool
is_small states symbols = cond (nat_eq symbols 2) (nat_le states 7) false

-- the table of so many states and symbols that is stored
abbrev pub table_of : ℕ → ℕ → PackedTable → List Slot → List (List Entry)
table_of states symbols packed slots =
    cond (is_small states symbols) (unpacked states packed.zero packed.one) (table_in states symbols slots)

-- a machine's table is stored, in two numbers if it is small
pub record IsStored (states symbols : ℕ) (packed : PackedTable) (gs : List (List Entry)) : Type 0 where
  pub table : IsTable states symbols gs
  pub small : IsTrue (is_small states symbols) → IsTableOf gs packed
