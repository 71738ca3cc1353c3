-- What more bytes do to the lines of an input.
use Rattle.std.proofs.Common.{◌≡◌, ◌≢◌, ℕ, ◌-◌, Bool, true, false, cond, List, [], ◌∷◌, ◌++◌, length}
use Rattle.std.proofs.Common.{append_assoc, sym, ◌∙◌, ap, ap₂, refl, arith, length-append}
use Rattle.std.specs.Prelude.{◌==◌}
use Rattle.std.specs.List.{slice_split, onto_first}
use Rattle.std.proofs.Math.Seq.{take-append_seam, get_or-append_seam}
use Rattle.std.proofs.lemmas.Bool.{ne_eqb}
use Rattle.std.proofs.lemmas.List.Elements.{All-head, All-tail}
use Rattle.bb_lines.specs.Lines.{HasNoNewline, pieces, complete, unfinished, lines, unless_empty}

-- a byte that is no newline
abbrev pub IsOther : ℕ → Type 0
IsOther byte = byte ≢ 10

-- a list's parts, and those of it and more: the first part of what is more goes to its last one
abbrev GoesOn : List ℕ → List (List ℕ) → List (List ℕ) → List (List ℕ) → Type 0
GoesOn first later parts all = (before : List (List ℕ)) × (last : List ℕ) × (parts ≡ before ++ last ∷ [])
    × (all ≡ before ++ (last ++ first) ∷ later)

onto_both : (x : ℕ) (first : List ℕ) (later parts all before : List (List ℕ)) (last : List ℕ)
    → parts ≡ before ++ last ∷ [] → all ≡ before ++ (last ++ first) ∷ later
    → GoesOn first later (onto_first x parts) (onto_first x all)
onto_both x first later parts all [] last e f = ([], x ∷ last, ap (onto_first x) e, ap (onto_first x) f)
onto_both x first later parts all (part ∷ before) last e f =
    ((x ∷ part) ∷ before, last, ap (onto_first x) e, ap (onto_first x) f)

split_append : (p : ℕ → Bool) (xs ys first : List ℕ) (later : List (List ℕ))
    → slice_split p ys ≡ first ∷ later → GoesOn first later (slice_split p xs) (slice_split p (xs ++ ys))
split_append p [] ys first later is = ([], [], refl, is)
split_append p (x ∷ xs) ys first later is =
    let h = split_append p xs ys first later is in
    elim (p x) as
    (λ b. GoesOn first later (cond b ([] ∷ slice_split p xs) (onto_first x (slice_split p xs)))
    (cond b ([] ∷ slice_split p (xs ++ ys)) (onto_first x (slice_split p (xs ++ ys))))) [
      | true ↦ ([] ∷ h.0, h.1, ap (λ parts. [] ∷ parts) h.2, ap (λ parts. [] ∷ parts) h.3)
      | false ↦ onto_both x first later _ _ h.0 h.1 h.2 h.3
    ]

-- these are the complete lines of the bytes, and this is what stands after the last newline
pub record LinesAre (bytes : List ℕ) (before : List (List ℕ)) (rest : List ℕ) : Type 0 where
  pub is_complete : complete bytes ≡ before
  pub is_unfinished : unfinished bytes ≡ rest

pub LinesAre-from_pieces : (bytes : List ℕ) (before : List (List ℕ)) (rest : List ℕ)
    → pieces bytes ≡ before ++ rest ∷ [] → LinesAre bytes before rest
unfolding complete unfinished
LinesAre-from_pieces bytes before rest are =
    let count : length (pieces bytes) - 1 ≡ length before =
    rw are (omega (arith, length-append before (rest ∷ []))) in
    record {
      is_complete = rw (count, are) (take-append_seam before (rest ∷ []));
      is_unfinished = rw (count, are) (get_or-append_seam before rest [] []);
    }

-- the pieces but the last, and the last
pub pieces_end : (bytes : List ℕ)
    → (before : List (List ℕ)) × (last : List ℕ) × (pieces bytes ≡ before ++ last ∷ [])
unfolding pieces
pieces_end bytes = let h = split_append (λ b. b == 10) bytes [] [] [] refl in (h.0, h.1, h.2)

-- more bytes: their first piece ends the unfinished line
pub pieces-append : (bytes more first : List ℕ) (later : List (List ℕ)) → pieces more ≡ first ∷ later
    → pieces (bytes ++ more) ≡ complete bytes ++ (unfinished bytes ++ first) ∷ later
unfolding pieces
pieces-append bytes more first later is =
    let h = split_append (λ b. b == 10) bytes more first later is in
    let are = LinesAre-from_pieces bytes h.0 h.1 h.2 in
    rw (are.is_complete, are.is_unfinished) h.3

-- bytes without a newline are one piece, and with a newline behind them one more than what follows
pub pieces-none : (more : List ℕ) → HasNoNewline more → pieces more ≡ more ∷ []
unfolding pieces
pieces-none [] none = refl
pieces-none (byte ∷ more) none =
    let other : (byte == 10) ≡ false = ne_eqb byte 10 (All-head IsOther byte more none) in
    rw other (ap (onto_first byte) (pieces-none more (All-tail IsOther byte more none)))

pub pieces-line : (line more : List ℕ) → HasNoNewline line → pieces (line ++ 10 ∷ more) ≡ line ∷ pieces more
unfolding pieces
pieces-line [] more none = refl
pieces-line (byte ∷ line) more none =
    let other : (byte == 10) ≡ false = ne_eqb byte 10 (All-head IsOther byte line none) in
    rw other (ap (onto_first byte) (pieces-line line more (All-tail IsOther byte line none)))

-- more bytes, none of them a newline
pub LinesAre-more : (bytes more : List ℕ) → HasNoNewline more
    → LinesAre (bytes ++ more) (complete bytes) (unfinished bytes ++ more)
LinesAre-more bytes more others = LinesAre-from_pieces (bytes ++ more) (complete bytes)
    (unfinished bytes ++ more) (pieces-append bytes more more [] (pieces-none more others))

-- a line comes to its end
pub LinesAre-line : (bytes more : List ℕ) → HasNoNewline more
    → LinesAre (bytes ++ (more ++ 10 ∷ [])) (complete bytes ++ (unfinished bytes ++ more) ∷ []) []
unfolding pieces
LinesAre-line bytes more others = LinesAre-from_pieces (bytes ++ (more ++ 10 ∷ []))
    (complete bytes ++ (unfinished bytes ++ more) ∷ []) []
    (pieces-append bytes (more ++ 10 ∷ []) more ([] ∷ []) (pieces-line more [] others)
    ∙ sym (append_assoc (complete bytes) ((unfinished bytes ++ more) ∷ []) ([] ∷ [])))

-- the lines are the complete ones and what stands after the last newline, unless that is empty
pub lines-parts : (bytes : List ℕ) → lines bytes ≡ complete bytes ++ unless_empty (unfinished bytes)
unfolding lines
lines-parts bytes = refl

-- and by the pieces
pub lines-from_pieces : (bytes : List ℕ) (before : List (List ℕ)) (rest : List ℕ)
    → pieces bytes ≡ before ++ rest ∷ [] → lines bytes ≡ before ++ unless_empty rest
lines-from_pieces bytes before rest are =
    let parts = LinesAre-from_pieces bytes before rest are in
    lines-parts bytes ∙ ap₂ (λ b r. b ++ unless_empty r) parts.is_complete parts.is_unfinished

-- before any byte there is no line
pub LinesAre-none : LinesAre [] [] []
unfolding pieces
LinesAre-none = LinesAre-from_pieces [] [] [] refl

-- bytes without a newline are one unfinished line
pub LinesAre-one : (bytes : List ℕ) → HasNoNewline bytes → LinesAre bytes [] bytes
LinesAre-one bytes others = LinesAre-from_pieces bytes [] bytes (pieces-none bytes others)
