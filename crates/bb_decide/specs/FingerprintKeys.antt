-- The keys that the program takes for its fingerprints: this project's own.
use Rattle.std.specs.Prelude.{ℕ, ◌+◌, ◌*◌, ◌/◌, ◌%◌, ◌^◌, ℤ}
use Rattle.std.specs.Int.{cast_unsigned, w64}
use Rattle.std.specs.Prelude.{bit_xor}

-- twice the position and one, which is never 0
abbrev pub odd : ℤ → ℕ
odd position = (cast_unsigned w64 position * 2 % 2 ^ 64 + 1) % 2 ^ 64

-- that times the odd number nearest 2^64 divided by the golden ratio
abbrev pub product : ℤ → ℕ
product position = odd position * 11400714819323198485 % 2 ^ 64

-- with its high half folded onto its low one
abbrev pub spread : ℤ → ℕ
spread position = bit_xor (product position) (product position / 2 ^ 29)
