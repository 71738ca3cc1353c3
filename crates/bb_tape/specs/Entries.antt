-- The cells of a tape that is kept as an ordered map: this project's own.
use Rattle.std.specs.Prelude.{ℕ, ℤ, List}
use Rattle.std.specs.FinMap.{from_entries}
use Rattle.bb_tape.specs.Content.{Content}

-- the cells of which the map's entries tell: the number k at a position is the symbol k + 1
unfoldable pub content_of : List (ℤ × ℕ) → Content
content_of entries = from_entries entries
