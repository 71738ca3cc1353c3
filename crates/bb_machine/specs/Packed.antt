-- The table of a small machine of two symbols in two numbers: this project's own.
use Rattle.std.specs.Prelude.{◌≡◌, ℕ, zero, suc, ◌+◌, ◌*◌, ◌/◌, ◌%◌, ◌^◌, ◌<◌, [], ◌∷◌, length}
use Rattle.std.specs.Int.{bit_at}
use Rattle.bb_machine.specs.declared.entry.Dir.{Dir}
use Rattle.bb_machine.specs.declared.entry.Dir.TheVariants.{L, R}
use Rattle.bb_machine.specs.declared.entry.Next.TheVariants.{State, Halt}
use Rattle.bb_machine.specs.declared.entry.Entry.{Entry}
use Rattle.bb_machine.specs.declared.entry.Entry.TheVariants.{Undefined, Go}
use Rattle.bb_machine.specs.declared.packed.PackedTable.{PackedTable}
use Rattle.bb_machine.specs.Machine.{Table, entry_of}

-- 1 for right
abbrev pub right_bit : Dir → ℕ
right_bit L = 0
right_bit R = 1

-- the low nine bits of a number tell the entry for a symbol
abbrev pub IsPackedEntry : ℕ → ℕ → Entry → Type 0
IsPackedEntry f symbol Undefined = (bit_at f 8 ≡ 1) × (bit_at f 0 ≡ 0)
IsPackedEntry f symbol (Go write dir Halt) =
    (bit_at f 8 ≡ 1) × (bit_at f 7 ≡ right_bit dir) × (write ≡ (symbol + bit_at f 6) % 2) × (bit_at f 0 ≡ 1)
IsPackedEntry f symbol (Go write dir (State state)) =
    (bit_at f 8 ≡ 0) × (bit_at f 7 ≡ right_bit dir) × (write ≡ (symbol + bit_at f 6) % 2)
    × (f % 64 ≡ 9 * state)

-- the entries of the states from one on, the first of them lowest
abbrev pub ArePackedFrom : Table → ℕ → ℕ → ℕ → Type 0
ArePackedFrom table symbol from n = (q : ℕ) → from + q < length table
    → IsPackedEntry (n / 2 ^ (9 * q)) symbol (entry_of table (from + q) symbol)

-- the two numbers tell the table
pub record IsTableOf (table : Table) (packed : PackedTable) : Type 0 where
  pub zero : ArePackedFrom table 0 0 packed.zero
  pub one : ArePackedFrom table 1 0 packed.one

-- right for 1
abbrev pub dir_of_bit : ℕ → Dir
dir_of_bit zero = L
dir_of_bit (suc n) = R

-- the entry by the bits 8, 0 and 7, what it writes and its next state
abbrev pub entry_by : ℕ → ℕ → ℕ → ℕ → ℕ → Entry
entry_by zero halts right write state = Go write (dir_of_bit right) (State state)
entry_by (suc n) zero right write state = Undefined
entry_by (suc n) (suc m) right write state = Go write (dir_of_bit right) Halt

-- the entry for a symbol that the low nine bits of a number tell
abbrev pub entry_in_bits : ℕ → ℕ → Entry
entry_in_bits symbol f =
    entry_by (bit_at f 8) (bit_at f 0) (bit_at f 7) ((symbol + bit_at f 6) % 2) (f % 64 / 9)

-- the table of so many states that two numbers tell
abbrev pub unpacked : ℕ → ℕ → ℕ → Table
unpacked zero for_zero for_one = []
unpacked (suc states) for_zero for_one =
    (entry_in_bits 0 for_zero ∷ entry_in_bits 1 for_one ∷ []) ∷ unpacked states (for_zero / 512) (for_one / 512)
