-- Sixty-four cells in one number: this project's own.
use Rattle.std.specs.Prelude.{◌≡◌, ◌<◌, ℕ, zero, suc, ℤ, pos, neg_ℤ, ◌+ℤ◌, ◌-ℤ◌, ◌≤ℤ◌, ◌<ℤ◌}
use Rattle.std.specs.Int.{bit_at}
use Rattle.bb_tape.specs.Content.{Content, blank, with_cell}
use Rattle.bb_registers.specs.declared.cells.BitCells.{BitCells}

-- the position is one of the 64
abbrev pub IsInWord : ℤ → Type 0
IsInWord p = (neg_ℤ (pos 32) ≤ℤ p) × (p <ℤ pos 32)

-- the len positions from one on are among the 64
abbrev pub IsStretchInWord : ℤ → ℕ → Type 0
IsStretchInWord from len = (neg_ℤ (pos 32) ≤ℤ from) × ((from +ℤ pos len) ≤ℤ pos 32)

-- the tape that has the first k bits of a number from -32 on, and 0 elsewhere
abbrev pub bits_from : ℕ → ℕ → Content
bits_from n zero = blank
bits_from n (suc k) = with_cell (bits_from n k) (pos k -ℤ pos 32) (bit_at n k)

-- the tape of a number of 64 bits
unfoldable pub bits_content : ℕ → Content
bits_content n = bits_from n 64

-- the cells of which the bits tell
abbrev pub content_of : BitCells → Content
content_of cells = bits_content cells.bits

-- the position of the lowest bit of a number that is set
pub record IsLowest (bits : ℕ) (p : ℤ) : Type 0 where
  pub place : ℕ
  pub within : place < 64
  pub position : p ≡ pos place -ℤ pos 32
  pub set : bit_at bits place ≡ 1
  pub lowest : (i : ℕ) → i < place → bit_at bits i ≡ 0
