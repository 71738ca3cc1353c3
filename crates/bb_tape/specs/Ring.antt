-- The cells of a tape that is kept as a ring: this project's own.
use Rattle.std.specs.Prelude.{◌≡◌, ℕ, ◌+◌, ℤ, pos, ◌+ℤ◌, ◌-ℤ◌, ◌<ℤ◌, List, [], ◌∷◌, length, map, slice_index}
use Rattle.std.specs.Prelude.{unsigned_abs}
use Rattle.std.specs.List.{range_with_len}
use Rattle.bb_tape.specs.declared.window.Window.{Window}
use Rattle.bb_tape.specs.RingIndex.{ring_index}
use Rattle.bb_tape.specs.Content.{Content, blank, cell, with_cell}

-- the symbols of the len cells from a position on
abbrev pub symbols : Content → ℤ → ℕ → List ℕ
symbols c from len = map (λ k. cell c (from +ℤ pos k)) (range_with_len 0 len)

-- the tape that has these symbols from a position on, and 0 elsewhere
abbrev pub laid : ℤ → List ℕ → Content
laid from [] = blank
laid from (x ∷ xs) = with_cell (laid (from +ℤ pos 1) xs) from x

-- the tape that has in its window what the ring has, each cell at its position modulo the number of the
-- ring's cells, and 0 elsewhere
unfoldable pub ring_content : List ℕ → Window → Content
ring_content cells w =
    laid w.low (map (λ k. slice_index cells (ring_index w.limit (w.low +ℤ pos k)))
    (range_with_len 0 (unsigned_abs (w.high -ℤ w.low) + 1)))

-- what stands at no index of a position of the window is 0
abbrev pub IsClear : List ℕ → Window → Type 0
IsClear cells w = (k : ℕ) → w.high <ℤ pos k → pos k <ℤ (w.low +ℤ pos w.limit) → slice_index cells k ≡ 0

-- a ring with the window old can copy the cells of one with the window new
pub record CanCopy (to from : List ℕ) (old new : Window) : Type 0 where
  pub same : length to ≡ length from
  pub whole_to : length to ≡ old.limit
  pub whole_from : length from ≡ new.limit
  pub clear_to : IsClear to old
  pub clear_from : IsClear from new
