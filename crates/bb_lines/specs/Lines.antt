-- The lines of an input, and what is written for them. A line ends at a newline, the byte 10, and a last line
-- without one counts if it isn't empty. This project's own.
use Rattle.std.specs.Prelude.{◌≡◌, ◌≢◌, ℕ, ◌-◌, ◌==◌, List, [], ◌∷◌, ◌++◌, length, take, slice_index_or}
use Rattle.std.specs.List.{All, slice_split}

-- none of the bytes is a newline
abbrev pub HasNoNewline : List ℕ → Type 0
HasNoNewline bytes = All (λ byte. byte ≢ 10) bytes

-- the pieces between newlines: one more than there are newlines
unfoldable pub pieces : List ℕ → List (List ℕ)
pieces bytes = slice_split (λ b. b == 10) bytes

-- the pieces that a newline ends
unfoldable pub complete : List ℕ → List (List ℕ)
complete bytes = take (length (pieces bytes) - 1) (pieces bytes)

-- the piece after the last newline
unfoldable pub unfinished : List ℕ → List ℕ
unfinished bytes = slice_index_or (pieces bytes) (length (pieces bytes) - 1) []

-- a piece as a line, only if it isn't empty
abbrev pub unless_empty : List ℕ → List (List ℕ)
unless_empty [] = []
unless_empty (byte ∷ bytes) = (byte ∷ bytes) ∷ []

-- the lines: the pieces that a newline ends, and the piece after the last newline only if it isn't empty
unfoldable pub lines : List ℕ → List (List ℕ)
lines bytes = complete bytes ++ unless_empty (unfinished bytes)

-- these bytes are a reply to each of the lines, in order, and a newline after each reply
abbrev pub AreReplies : (List ℕ → List ℕ → Type 0) → List (List ℕ) → List ℕ → Type 0
AreReplies Reply [] bytes = bytes ≡ []
AreReplies Reply (line ∷ lines) bytes = (reply : List ℕ) × (rest : List ℕ)
    × Reply line reply × AreReplies Reply lines rest × (bytes ≡ (reply ++ 10 ∷ []) ++ rest)
