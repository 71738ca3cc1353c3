-- Sixty-four cells of a tape as the bits of a number.
use Rattle.std.specs.Prelude.{◌≡◌, ◌<◌, ℕ, min, ℤ, pos, ◌+ℤ◌, ◌≤ℤ◌, ◌<ℤ◌, ◌⊎◌}
use Rattle.std.specs.Int.{bit_at}
use Rattle.bb_tape.specs.Content.{Content, cell}
use Rattle.bb_tape.specs.TapeView.{TapeView}

-- the 64 positions from one on are in the window, all on one side of 0
pub record IsBlock (s : TapeView) (from : ℤ) : Type 0 where
  pub low : s.low ≤ℤ from
  pub high : (from +ℤ pos 63) ≤ℤ s.high
  pub side : (pos 0 ≤ℤ from) ⊎ ((from +ℤ pos 64) ≤ℤ pos 0)

-- the bits of a number are 1 where the cells from a position on aren't 0
abbrev pub HasBits : Content → ℤ → ℕ → Type 0
HasBits c from bits = (k : ℕ) → k < 64 → bit_at bits k ≡ min 1 (cell c (from +ℤ pos k))

-- the first n cells from a position on have become the bits of a number, and nothing else has changed
pub record PutsBits (old new : TapeView) (from : ℤ) (bits n : ℕ) : Type 0 where
  pub here : (k : ℕ) → k < n → cell new.content (from +ℤ pos k) ≡ bit_at bits k
  pub there : (p : ℤ) → (p <ℤ from) ⊎ ((from +ℤ pos n) ≤ℤ p) → cell new.content p ≡ cell old.content p
  pub low : new.low ≡ old.low
  pub high : new.high ≡ old.high
  pub limit : new.limit ≡ old.limit
