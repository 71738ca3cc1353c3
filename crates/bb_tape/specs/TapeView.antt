-- A tape as its calls see it: this project's own.
use Rattle.std.specs.Prelude.{◌≡◌, ◌≢◌, ℕ, ◌<◌, ◌≤◌, ℤ, pos, ◌+ℤ◌, ◌-ℤ◌, ◌<ℤ◌, ◌≤ℤ◌}
use Rattle.std.specs.Int.{int_min, int_max}
use Rattle.bb_tape.specs.declared.tape.TheConstants.{MAX_CELLS}
use Rattle.bb_tape.specs.Content.{Content, HasSymbols, blank, cell, with_cell}

-- The cells, the window of positions from low to high that were visited, both counted, and the most
-- positions that a window may have.
pub record TapeView : Type 0 where
  pub content : Content
  pub low : ℤ
  pub high : ℤ
  pub limit : ℕ

-- a tape on which nothing was done: all cells are 0, and the window is the position 0 alone
abbrev pub fresh : ℕ → TapeView
fresh limit = record { content = blank; low = pos 0; high = pos 0; limit = limit }

-- with the window widened to p
abbrev pub visited : TapeView → ℤ → TapeView
visited s p = record s { low = int_min s.low p; high = int_max s.high p }

-- with the symbol v at p
abbrev pub written : TapeView → ℤ → ℕ → TapeView
written s p v = record s { content = with_cell s.content p v }

-- the number of positions in the window
abbrev pub width : TapeView → ℤ
width s = (s.high -ℤ s.low) +ℤ pos 1

-- p is in the window
abbrev pub IsInside : TapeView → ℤ → Type 0
IsInside s p = (s.low ≤ℤ p) × (p ≤ℤ s.high)

-- p is in the window or next to it
abbrev pub IsBeside : TapeView → ℤ → Type 0
IsBeside s p = (s.low ≤ℤ (p +ℤ pos 1)) × (p ≤ℤ (s.high +ℤ pos 1))

-- the stretch of len positions that begins at from is in the window; an empty one always is
abbrev pub IsStretch : TapeView → ℤ → ℕ → Type 0
IsStretch s from len = (k : ℕ) → k < len → IsInside s (from +ℤ pos k)

-- the stretch of len cells of a that begins at from has the symbols of the one of b that begins at other_from
abbrev pub AgreesFrom : Content → ℤ → Content → ℤ → ℕ → Type 0
AgreesFrom a from b other_from len = (k : ℕ) → k < len → cell a (from +ℤ pos k) ≡ cell b (other_from +ℤ pos k)

-- What holds of every tape: the window has the position 0 and at most limit positions, all cells outside it
-- are 0, and each cell has a symbol.
pub record IsSound (s : TapeView) : Type 0 where
  pub from_zero : s.low ≤ℤ pos 0
  pub to_zero : pos 0 ≤ℤ s.high
  pub within : (s.high -ℤ s.low) <ℤ pos s.limit
  pub limited : s.limit ≤ MAX_CELLS
  pub nothing_outside : (p : ℤ) → cell s.content p ≢ 0 → IsInside s p
  pub symbols : HasSymbols s.content
