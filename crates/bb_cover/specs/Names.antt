-- A number's name in a list of names.
use Rattle.std.specs.Prelude.{ℕ, List, slice_index_or}

-- that at its place; past the list its own
abbrev pub name_in : List ℕ → ℕ → ℕ
name_in names n = slice_index_or names n n
