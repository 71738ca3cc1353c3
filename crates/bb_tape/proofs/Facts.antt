-- What users of any tape need to know of its cells, its window and positions. Proofs of other crates cite
-- this file alone.
use Rattle.std.proofs.Common.{◌≡◌, ℤ, ◌≤ℤ◌, arith}
use Rattle.std.proofs.lemmas.Int.{ints, clamps}
use Rattle.bb_tape.specs.TapeView.{TapeView, visited}
pub use Rattle.bb_tape.proofs.Content.{cell-blank, cell-with_cell-same, cell-with_cell-other}
pub use Rattle.bb_tape.proofs.Content.{same_content, by_position, put_back, score-blank, score-with_cell}
pub use Rattle.bb_tape.proofs.TapeViews.{cell-written-same, written_back, same_ends}
pub use Rattle.bb_tape.proofs.Rings.{abs_is}

-- a position further out, below or above, takes in the one before
pub visited-visited-low : (s : TapeView) (p q : ℤ) → q ≤ℤ p → p ≤ℤ s.high
    → visited (visited s p) q ≡ visited s q
visited-visited-low s p q further order =
    same_ends s (omega (arith, ints, clamps)) (omega (arith, ints, clamps))

pub visited-visited-high : (s : TapeView) (p q : ℤ) → p ≤ℤ q → s.low ≤ℤ p
    → visited (visited s p) q ≡ visited s q
visited-visited-high s p q further order =
    same_ends s (omega (arith, ints, clamps)) (omega (arith, ints, clamps))
