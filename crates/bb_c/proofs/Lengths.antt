-- How long the replies to all lines of a list are.
use Rattle.std.proofs.Common.{ℕ, ◌≡◌, ◌+◌, ◌*◌, ◌-◌, ◌≤◌, Bool, true, false, cond, List, [], ◌∷◌}
use Rattle.std.proofs.Common.{◌++◌, length, zero, suc, take, arith, ap, length-append}
use Rattle.std.specs.Prelude.{◌==◌, slice_index_or}
use Rattle.std.specs.List.{slice_split, onto_first}
use Rattle.bb_lines.specs.Lines.{AreReplies, complete, lines, pieces, unfinished, unless_empty}

-- how many bytes the lines have
total : List (List ℕ) → ℕ
total [] = 0
total (line ∷ lines) = length line + total lines

-- room for a reply to each of the lines, and its newline
pub room : (List ℕ → ℕ) → List (List ℕ) → ℕ
room most [] = 0
room most (line ∷ lines) = most line + 1 + room most lines

pub replies_fit : (Reply : List ℕ → List ℕ → Type 0) (most : List ℕ → ℕ)
    → ((line reply : List ℕ) → Reply line reply → length reply ≤ most line)
    → (lines : List (List ℕ)) (bytes : List ℕ) → AreReplies Reply lines bytes → length bytes ≤ room most lines
unfolding room
replies_fit Reply most short [] bytes are = omega (arith, ap length are)
replies_fit Reply most short (line ∷ lines) bytes are =
    let ended = length-append are.0 (10 ∷ []) in
    let parts = length-append (are.0 ++ 10 ∷ []) are.1 in
    omega (arith, short line are.0 are.2, replies_fit Reply most short lines are.1 are.3, ap length are.4)

-- replies of at most 6 bytes
pub room_of_words : (lines : List (List ℕ)) → room (λ line. 6) lines ≡ 7 * length lines
unfolding room
room_of_words [] = omega arith
room_of_words (line ∷ lines) = let others = room_of_words lines in omega arith

-- replies that are at most 97 bytes longer than their lines
room_of_longer : (lines : List (List ℕ))
    → room (λ line. length line + 97) lines ≡ total lines + 98 * length lines
unfolding room total
room_of_longer [] = omega arith
room_of_longer (line ∷ lines) = let others = room_of_longer lines in omega arith

-- replies of at most seven times the bytes of their lines, and 89
room_of_recurrences : (lines : List (List ℕ))
    → room (λ line. 7 * length line + 89) lines ≡ 7 * total lines + 90 * length lines
unfolding room total
room_of_recurrences [] = omega arith
room_of_recurrences (line ∷ lines) = let others = room_of_recurrences lines in omega arith

total-append : (a b : List (List ℕ)) → total (a ++ b) ≡ total a + total b
unfolding total
total-append [] b = omega arith
total-append (line ∷ a) b = let others = total-append a b in omega arith

total-unless_empty : (piece : List ℕ) → total (unless_empty piece) ≡ length piece
unfolding total
total-unless_empty [] = omega arith
total-unless_empty (byte ∷ piece) = omega arith

total-onto_first : (x : ℕ) (parts : List (List ℕ)) → total (onto_first x parts) ≤ total parts + 1
unfolding total
total-onto_first x [] = omega arith
total-onto_first x (part ∷ parts) = omega arith

-- the parts have no more bytes than what was split
total-split : (p : ℕ → Bool) (xs : List ℕ) → total (slice_split p xs) ≤ length xs
unfolding total
total-split p [] = omega arith
total-split p (x ∷ xs) =
    elim (p x) as
    (λ b. total (cond b ([] ∷ slice_split p xs) (onto_first x (slice_split p xs))) ≤ length (x ∷ xs)) [
      | true ↦ omega (arith, total-split p xs)
      | false ↦ omega (arith, total-split p xs, total-onto_first x (slice_split p xs))
    ]

-- the first few of the parts, and the next
total-take : (parts : List (List ℕ)) (k : ℕ)
    → total (take k parts) + length (slice_index_or parts k []) ≤ total parts
unfolding total
total-take [] zero = omega arith
total-take [] (suc k) = omega arith
total-take (part ∷ parts) zero = omega arith
total-take (part ∷ parts) (suc k) = let others = total-take parts k in omega arith

total-lines : (bytes : List ℕ) → total (lines bytes) ≤ length bytes
unfolding pieces complete unfinished lines
total-lines bytes =
    let parts = slice_split (λ b. b == 10) bytes in
    let split = total-split (λ b. b == 10) bytes in
    let piece = slice_index_or parts (length parts - 1) [] in
    let both = total-append (take (length parts - 1) parts) (unless_empty piece) in
    omega (arith, split, total-take parts (length parts - 1), both, total-unless_empty piece)

-- the room for replies that are so much longer, by the bytes of the list
pub room_in_list : (bytes : List ℕ)
    → room (λ line. length line + 97) (lines bytes) ≤ length bytes + 98 * length (lines bytes)
room_in_list bytes =
    omega (arith, room_of_longer (lines bytes), total-lines bytes)

pub recurrence_room_in_list : (bytes : List ℕ)
    → room (λ line. 7 * length line + 89) (lines bytes) ≤ 7 * length bytes + 90 * length (lines bytes)
recurrence_room_in_list bytes =
    omega (arith, room_of_recurrences (lines bytes), total-lines bytes)
