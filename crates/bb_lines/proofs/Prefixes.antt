-- The first bytes of each line, as pieces of the input come in.
use Rattle.std.proofs.Common.{◌≡◌, ℕ, zero, suc, ◌+◌, ◌-◌, ◌<◌, ◌≤◌, true, List, [], ◌∷◌, ◌++◌, length}
use Rattle.std.proofs.Common.{get_or, take, drop, append_assoc, sym, ◌∙◌, subst, ap, refl, rules, arith}
use Rattle.std.specs.Prelude.{◌==◌}
use Rattle.std.proofs.Math.Seq.{drop-cons, take-length}
use Rattle.std.proofs.Math.Numerals.{add-one}
use Rattle.std.proofs.lemmas.Bool.{eqb-true}
use Rattle.std.proofs.lemmas.List.{append-nil, length-take, map-append, take-append-drop, take_all}
use Rattle.std.proofs.lemmas.List.Elements.{All-append, All-cons, All-nil, All-take}
use Rattle.bb_lines.specs.Lines.{HasNoNewline, complete, unfinished, lines, pieces, unless_empty}
use Rattle.bb_lines.specs.inside.Progress.{prefixes}
use Rattle.bb_lines.proofs.Pieces.{IsOther, LinesAre-from_pieces, LinesAre-line, LinesAre-more, LinesAre-none}
use Rattle.bb_lines.proofs.Pieces.{LinesAre-one, lines-parts, pieces-append, pieces_end}
use Rattle.bb_lines.proofs.Sends.{slice_from}

-- the bytes before an index before which there is no newline
pub no_newline_before : (bytes : List ℕ) (at : ℕ) → at ≤ length bytes
    → ((k : ℕ) → 0 ≤ k → k < at → (get_or bytes k 0 == 10) ≡ true → ⊥) → HasNoNewline (take at bytes)
no_newline_before bytes zero fits h = All-nil IsOther
no_newline_before [] (suc at) fits h = All-nil IsOther
no_newline_before (byte ∷ bytes) (suc at) fits h =
    All-cons IsOther byte (take at bytes) (λ is. h 0 (omega arith) (omega arith) (search (rules, is)))
    (no_newline_before bytes at (omega arith) (λ k low l. h (suc k) (omega arith) (omega (arith, l))))

-- the bytes up to a newline, the newline, and the bytes after it
pub line_split : (bytes : List ℕ) (at : ℕ) → at < length bytes → (get_or bytes at 0 == 10) ≡ true
    → (take at bytes ++ 10 ∷ []) ++ drop (at + 1) bytes ≡ bytes
line_split bytes at fits is =
    let here : drop at bytes ≡ 10 ∷ drop (at + 1) bytes =
    drop-cons bytes at 0 fits ∙ ap (λ b. b ∷ drop (suc at) bytes) (eqb-true (get_or bytes at 0) 10 is)
    ∙ ap (λ n. 10 ∷ drop n bytes) (sym (add-one at)) in
    append_assoc (take at bytes) (10 ∷ []) (drop (at + 1) bytes) ∙ ap (λ b. take at bytes ++ b) (sym here)
    ∙ take-append-drop at bytes

take_none : (n : ℕ) → ◌≡◌ {A = List ℕ} [] (take n [])
take_none zero = refl
take_none (suc n) = refl

-- what is kept of more bytes is kept of what was kept of the first
take-kept : (keep : ℕ) (xs ys : List ℕ) → take keep (take keep xs ++ ys) ≡ take keep (xs ++ ys)
take-kept zero xs ys = refl
take-kept (suc keep) [] ys = refl
take-kept (suc keep) (x ∷ xs) ys = ap (λ l. x ∷ l) (take-kept keep xs ys)

-- what is kept of a line, after a piece more of it
kept_more : (keep : ℕ) (line piece : List ℕ) {kept kept' : List ℕ} → kept ≡ take keep line
    → kept' ≡ take keep (kept ++ piece) → kept' ≡ take keep (line ++ piece)
kept_more keep line piece was is = is ∙ ap (λ l. take keep (l ++ piece)) was
    ∙ take-kept keep line piece

prefixes-append : (keep : ℕ) (xs ys : List (List ℕ))
    → prefixes keep (xs ++ ys) ≡ prefixes keep xs ++ prefixes keep ys
prefixes-append keep xs ys = map-append (take keep) xs ys

unless_empty-prefix : (keep : ℕ) (line : List ℕ) → 0 < keep
    → prefixes keep (unless_empty line) ≡ unless_empty (take keep line)
unless_empty-prefix zero line some = absurd (omega arith)
unless_empty-prefix (suc keep) [] some = refl
unless_empty-prefix (suc keep) (x ∷ line) some = refl

-- the prefixes of all lines, by what is kept of the last
pub prefixes-lines : (keep : ℕ) (bytes : List ℕ) {kept : List ℕ} → 0 < keep
    → kept ≡ take keep (unfinished bytes)
    → prefixes keep (lines bytes) ≡ prefixes keep (complete bytes) ++ unless_empty kept
prefixes-lines keep bytes {kept} some is =
    ap (prefixes keep) (lines-parts bytes)
    ∙ prefixes-append keep (complete bytes) (unless_empty (unfinished bytes))
    ∙ ap (λ l. prefixes keep (complete bytes) ++ l) (unless_empty-prefix keep (unfinished bytes) some
    ∙ ap unless_empty (sym is))

-- the prefixes of the lines that end in a piece, and what is kept after it, by what was kept before it
record AfterPiece (keep : ℕ) (past piece kept : List ℕ) : Type 0 where
  is_complete : prefixes keep (complete (past ++ piece)) ≡ prefixes keep (complete past)
      ++ prefixes keep (complete (kept ++ piece))
  is_kept : take keep (unfinished (kept ++ piece)) ≡ take keep (unfinished (past ++ piece))

after_piece : (keep : ℕ) (piece past : List ℕ) {kept : List ℕ} → kept ≡ take keep (unfinished past)
    → HasNoNewline kept → AfterPiece keep past piece kept
after_piece keep piece past {kept} was others =
    let end = pieces_end piece in by_pieces end.0 end.1 end.2
  where
    -- all pieces, after what was kept
    kept_pieces : (first : List ℕ) (later : List (List ℕ)) → pieces piece ≡ first ∷ later
        → pieces (kept ++ piece) ≡ (kept ++ first) ∷ later
    kept_pieces first later is = let one = LinesAre-one kept others in
        pieces-append kept piece first later is
        ∙ ap (λ before. before ++ (unfinished kept ++ first) ∷ later) one.is_complete
        ∙ ap (λ line. (line ++ first) ∷ later) one.is_unfinished

    by_pieces : (before : List (List ℕ)) (last : List ℕ) → pieces piece ≡ before ++ last ∷ []
        → AfterPiece keep past piece kept
    by_pieces [] last is =
        let all = LinesAre-from_pieces _ _ _ (pieces-append past piece last [] is) in
        let same = LinesAre-from_pieces (kept ++ piece) [] (kept ++ last) (kept_pieces last [] is) in record {
          is_complete = ap (prefixes keep) all.is_complete ∙ sym (append-nil (prefixes keep (complete past)))
              ∙ sym (ap (λ l. prefixes keep (complete past) ++ prefixes keep l) same.is_complete);
          is_kept = ap (take keep) same.is_unfinished ∙ kept_more keep (unfinished past) last was refl
              ∙ sym (ap (take keep) all.is_unfinished);
        }
    by_pieces (first ∷ middle) last is =
        let line = unfinished past ++ first in
        let all = LinesAre-from_pieces (past ++ piece) (complete past ++ line ∷ middle) last
        (pieces-append past piece first (middle ++ last ∷ []) is
        ∙ sym (append_assoc (complete past) (line ∷ middle) (last ∷ []))) in
        let same = LinesAre-from_pieces (kept ++ piece) ((kept ++ first) ∷ middle) last
        (kept_pieces first (middle ++ last ∷ []) is) in record {
          is_complete = ap (prefixes keep) all.is_complete
              ∙ prefixes-append keep (complete past) (line ∷ middle)
              ∙ ap (λ x. prefixes keep (complete past) ++ x ∷ prefixes keep middle)
              (sym (kept_more keep (unfinished past) first was refl))
              ∙ sym (ap (λ l. prefixes keep (complete past) ++ prefixes keep l) same.is_complete);
          is_kept = ap (take keep) same.is_unfinished ∙ sym (ap (take keep) all.is_unfinished);
        }

-- of these bytes, the first bytes of each line that came to its end, and what is kept of the line at work
pub record IsTaken (keep : ℕ) (past : List ℕ) (ended : List (List ℕ)) (kept : List ℕ) : Type 0 where
  pub one_line : HasNoNewline kept
  pub is_kept : kept ≡ take keep (unfinished past)
  pub is_ended : prefixes keep (complete past) ≡ ended

-- before the first byte
pub taken_none : (keep : ℕ) {kept : List ℕ} → kept ≡ [] → IsTaken keep [] [] kept
taken_none keep none = record {
  one_line = subst HasNoNewline (sym none) (All-nil IsOther);
  is_kept = none ∙ take_none keep ∙ ap (take keep) (sym LinesAre-none.is_unfinished);
  is_ended = ap (prefixes keep) LinesAre-none.is_complete;
}

-- what comes after some bytes
module _ {keep : ℕ} {past : List ℕ} {ended : List (List ℕ)} {kept : List ℕ}
    (taken : IsTaken keep past ended kept) where
  pub few_kept : length kept ≤ keep
  few_kept =
      omega (arith, ap length taken.is_kept, length-take keep (unfinished past))

  pub taken_lines : 0 < keep → prefixes keep (lines past) ≡ ended ++ unless_empty kept
  taken_lines some = prefixes-lines keep past some taken.is_kept
      ∙ ap (λ l. l ++ unless_empty kept) taken.is_ended

  ended_more : (piece : List ℕ)
      → prefixes keep (complete (past ++ piece)) ≡ ended ++ prefixes keep (complete (kept ++ piece))
  ended_more piece = (after_piece keep piece past taken.is_kept taken.one_line).is_complete
      ∙ ap (λ l. l ++ prefixes keep (complete (kept ++ piece))) taken.is_ended

  -- a piece more
  pub taken_more : (piece : List ℕ) {kept' : List ℕ} → HasNoNewline kept'
      → kept' ≡ take keep (unfinished (kept ++ piece))
      → IsTaken keep (past ++ piece) (ended ++ prefixes keep (complete (kept ++ piece))) kept'
  taken_more piece one_line is = record {
    one_line = one_line;
    is_kept = is ∙ (after_piece keep piece past taken.is_kept taken.one_line).is_kept;
    is_ended = ended_more piece;
  }

  pub lines_more : 0 < keep → (piece : List ℕ) → prefixes keep (lines (past ++ piece))
      ≡ (ended ++ prefixes keep (complete (kept ++ piece)))
      ++ unless_empty (take keep (unfinished (past ++ piece)))
  lines_more some piece = let last = take keep (unfinished (past ++ piece)) in
      prefixes-lines keep (past ++ piece) {kept = last} some refl
      ∙ ap (λ l. l ++ unless_empty last) (ended_more piece)

  -- a line comes to its end
  taken_line : (piece : List ℕ) → HasNoNewline piece → {kept' : List ℕ} → kept' ≡ []
      → IsTaken keep (past ++ (piece ++ 10 ∷ [])) (ended ++ take keep (kept ++ piece) ∷ []) kept'
  taken_line piece others none = let line = LinesAre-line past piece others in record {
    one_line = subst HasNoNewline (sym none) (All-nil IsOther);
    is_kept = none ∙ take_none keep ∙ ap (take keep) (sym line.is_unfinished);
    is_ended = ap (prefixes keep) line.is_complete
        ∙ prefixes-append keep (complete past) ((unfinished past ++ piece) ∷ [])
        ∙ ap (λ l. l ++ take keep (unfinished past ++ piece) ∷ []) taken.is_ended
        ∙ ap (λ l. ended ++ l ∷ []) (sym (kept_more keep (unfinished past) piece taken.is_kept refl));
  }

  -- no line does
  taken_on : (piece : List ℕ) → HasNoNewline piece → {kept' : List ℕ} → kept' ≡ take keep (kept ++ piece)
      → IsTaken keep (past ++ piece) ended kept'
  taken_on piece others is = let more = LinesAre-more past piece others in record {
    one_line = subst HasNoNewline (sym is)
        (All-take IsOther keep (kept ++ piece) (All-append IsOther kept piece taken.one_line others));
    is_kept = kept_more keep (unfinished past) piece taken.is_kept is
        ∙ ap (take keep) (sym more.is_unfinished);
    is_ended = ap (prefixes keep) more.is_complete ∙ taken.is_ended;
  }

-- a piece is taken up to what is left of it, after what was kept at its start
pub record IsCut (keep : ℕ) (start piece rest : List ℕ) (ended : List (List ℕ)) (kept : List ℕ)
    : Type 0 where
  pub prefix : List ℕ
  pub whole : prefix ++ rest ≡ piece
  pub taken : IsTaken keep (start ++ prefix) ended kept

-- before the first byte of a piece
pub cut_at_first : (keep : ℕ) (start piece : List ℕ) → length start ≤ keep → HasNoNewline start
    → IsCut keep start piece piece [] start
cut_at_first keep start piece few others = let one = LinesAre-one start others in record {
  prefix = [];
  whole = refl;
  taken = record {
    one_line = others;
    is_kept = sym (ap (λ b. take keep (unfinished b)) (append-nil start) ∙ ap (take keep) one.is_unfinished
        ∙ take_all keep start few);
    is_ended = ap (λ b. prefixes keep (complete b)) (append-nil start) ∙ ap (prefixes keep) one.is_complete;
  };
}

-- what comes after a cut
module _ {keep : ℕ} {start piece rest : List ℕ} {ended : List (List ℕ)} {kept : List ℕ}
    (cut : IsCut keep start piece rest ended kept) where
  -- up to the first newline that is left
  module _ (at : ℕ) (inside : at < length rest)
      (before : (k : ℕ) → 0 ≤ k → k < at → (get_or rest k 0 == 10) ≡ true → ⊥)
      (is : (get_or rest at 0 == 10) ≡ true) where
    with_line : (cut.prefix ++ (take at rest ++ 10 ∷ [])) ++ drop (at + 1) rest ≡ piece
    with_line = append_assoc cut.prefix (take at rest ++ 10 ∷ []) (drop (at + 1) rest)
        ∙ ap (λ b. cut.prefix ++ b) (line_split rest at inside is) ∙ cut.whole

    line_taken : (kept' : List ℕ) → kept' ≡ []
        → IsTaken keep (start ++ (cut.prefix ++ (take at rest ++ 10 ∷ [])))
        (ended ++ take keep (kept ++ take at rest) ∷ []) kept'
    line_taken kept' none =
        subst (λ past. IsTaken keep past (ended ++ take keep (kept ++ take at rest) ∷ []) kept')
        (append_assoc start cut.prefix (take at rest ++ 10 ∷ []))
        (taken_line cut.taken (take at rest) (no_newline_before rest at (omega (arith, inside)) before) none)

    pub cut_after_line : {kept' : List ℕ} → kept' ≡ []
        → IsCut keep start piece (take (length rest - (at + 1)) (drop (at + 1) rest))
        (ended ++ take keep (kept ++ take at rest) ∷ []) kept'
    cut_after_line none = record {
      prefix = cut.prefix ++ (take at rest ++ 10 ∷ []);
      whole = rw slice_from with_line;
      taken = line_taken _ none;
    }

    -- all lines of the piece, of which this is the next
    pub all_lines : prefixes keep (complete (start ++ piece))
        ≡ (ended ++ take keep (kept ++ take at rest) ∷ []) ++ prefixes keep (complete (drop (at + 1) rest))
    all_lines = let line = cut.prefix ++ (take at rest ++ 10 ∷ []) in
        sym (ap (λ b. prefixes keep (complete b)) (append_assoc start line (drop (at + 1) rest)
        ∙ ap (λ b. start ++ b) with_line))
        ∙ ended_more (line_taken [] refl) (drop (at + 1) rest)

  -- where no newline is left
  pub taken_to_end : ((k : ℕ) → 0 ≤ k → k < length rest → (get_or rest k 0 == 10) ≡ true → ⊥)
      → {kept' : List ℕ} {most : ℕ} → most ≡ keep → kept' ≡ take most (kept ++ rest)
      → IsTaken keep (start ++ piece) ended kept'
  taken_to_end none {kept'} same is =
      let others : HasNoNewline rest = subst HasNoNewline (take-length rest)
      (no_newline_before rest (length rest) (omega arith) none) in
      subst (λ past. IsTaken keep past ended kept')
      (append_assoc start cut.prefix rest ∙ ap (λ b. start ++ b) cut.whole)
      (taken_on cut.taken rest others (is ∙ ap (λ n. take n (kept ++ rest)) same))
