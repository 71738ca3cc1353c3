-- How far a window reaches.
use Rattle.std.specs.Prelude.{ℕ, ◌+◌, ℤ, ◌-ℤ◌}
use Rattle.std.specs.Int.RustNames.{unsigned_abs}

-- how many positions there are from low to high, both counted
abbrev pub cells_between : ℤ → ℤ → ℕ
cells_between low high = unsigned_abs (high -ℤ low) + 1
