-- The index of a cell in a ring: this project's own.
use Rattle.std.specs.Prelude.{ℕ, ℤ, pos, unsigned_abs}
use Rattle.std.specs.Int.{int_rem_euclid}

-- p modulo the number of the ring's cells
unfoldable pub ring_index : ℕ → ℤ → ℕ
ring_index size p = unsigned_abs (int_rem_euclid p (pos size))
