-- The window of a tape's visited positions: this project's own.
use Rattle.std.specs.Prelude.{ℕ, ◌≤◌, ℤ, pos, ◌-ℤ◌, ◌≤ℤ◌, ◌<ℤ◌}
use Rattle.bb_tape.specs.declared.tape.TheConstants.{MAX_CELLS}

-- From low to high, both counted, with 0 among them, and with no more positions than the limit.
pub record IsWindow (low high : ℤ) (limit : ℕ) : Type 0 where
  pub from_zero : low ≤ℤ pos 0
  pub to_zero : pos 0 ≤ℤ high
  pub within : (high -ℤ low) <ℤ pos limit
  pub limited : limit ≤ MAX_CELLS
