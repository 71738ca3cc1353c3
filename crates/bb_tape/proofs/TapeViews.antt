-- What users of any tape need to know of a write, and of a window's ends.
use Rattle.std.proofs.Common.{◌≡◌, ℕ, ℤ, ap}
use Rattle.bb_tape.specs.Content.{cell}
use Rattle.bb_tape.specs.TapeView.{TapeView, written}
use Rattle.bb_tape.proofs.Content.{cell-with_cell-same, put_back}

pub cell-written-same : (s : TapeView) (p : ℤ) (v : ℕ) → cell (written s p v).content p ≡ v
cell-written-same s p v = cell-with_cell-same s.content p v

-- to put back what was there changes nothing
pub written_back : (s : TapeView) (p : ℤ) (v : ℕ) → written (written s p v) p (cell s.content p) ≡ s
written_back s p v = ap (λ c. record s { content = c }) (put_back s.content p v)

-- the same ends make the same view
pub same_ends : (s : TapeView) {low high low' high' : ℤ} → low ≡ low' → high ≡ high'
    → record s { low = low; high = high } ≡ record s { low = low'; high = high' }
same_ends s l h = λ i. record s { low = l i; high = h i }
