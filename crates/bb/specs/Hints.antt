-- The kinds of an input by its first bytes: this project's own.
use Rattle.std.specs.Prelude.{◌⊎◌, ℕ, List, [], ◌∷◌}
use Rattle.bb_machine.specs.Column.{BeginsWith}

-- a file of gzip begins with these two bytes
abbrev pub IsGzip : List ℕ → Type 0
IsGzip bytes = BeginsWith bytes (31 ∷ 139 ∷ [])

-- a text in UTF-16 begins with a byte order mark
abbrev pub IsUtf16 : List ℕ → Type 0
IsUtf16 bytes = BeginsWith bytes (255 ∷ 254 ∷ []) ⊎ BeginsWith bytes (254 ∷ 255 ∷ [])
