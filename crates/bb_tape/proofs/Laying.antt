-- The cells of symbols that are laid on a blank tape, and how many aren't 0.
use Rattle.std.proofs.Common.{◌≡◌, ◌≢◌, ℕ, zero, suc, ◌+◌, min, cond, ℤ, pos, ◌+ℤ◌, ◌<ℤ◌, List, [], ◌∷◌}
use Rattle.std.proofs.Common.{get_or, count_by, sym, ap, ◌∙◌, arith}
use Rattle.std.proofs.lemmas.Int.{ints}
use Rattle.std.proofs.lemmas.List.Sums.{sum_by-append}
use Rattle.std.proofs.lemmas.Bool.Decides.{nat_tests}
use Rattle.bb_tape.specs.Content.{cell, with_cell, score}
use Rattle.bb_tape.specs.Ring.{laid}
use Rattle.bb_tape.proofs.Content.{cell-blank, cell-with_cell-same, cell-with_cell-other, score-blank}
use Rattle.bb_tape.proofs.Content.{score-with_cell}
use Rattle.bb_tape.proofs.Slices.{nonzero}

pub cell-laid-below : (from : ℤ) (xs : List ℕ) (p : ℤ) → p <ℤ from → cell (laid from xs) p ≡ 0
cell-laid-below from [] p h = cell-blank p
cell-laid-below from (x ∷ xs) p h =
    let other : p ≢ from = λ e. omega (arith, ints, e) in
    let next : p <ℤ (from +ℤ pos 1) = omega (arith, ints) in
    cell-with_cell-other (laid (from +ℤ pos 1) xs) from x p other ∙ cell-laid-below (from +ℤ pos 1) xs p next

pub cell-laid : (from : ℤ) (xs : List ℕ) (k : ℕ) (p : ℤ) → p ≡ from +ℤ pos k
    → cell (laid from xs) p ≡ get_or xs k 0
cell-laid from [] k p e = cell-blank p
cell-laid from (x ∷ xs) zero p e =
    let here : p ≡ from = e ∙ omega (arith, ints) in
    ap (cell (laid from (x ∷ xs))) here ∙ cell-with_cell-same (laid (from +ℤ pos 1) xs) from x
cell-laid from (x ∷ xs) (suc k) p e =
    let next : p ≡ (from +ℤ pos 1) +ℤ pos k = omega (arith, ints, e) in
    let other : p ≢ from = λ same. omega (arith, ints, e, same) in
    cell-with_cell-other (laid (from +ℤ pos 1) xs) from x p other ∙ cell-laid (from +ℤ pos 1) xs k p next

one_if : (x : ℕ) → cond (nonzero x) 1 0 ≡ min 1 x
one_if x = grind (arith, nat_tests)

pub count_next : (x : ℕ) (xs : List ℕ) → count_by nonzero (x ∷ xs) ≡ min 1 x + count_by nonzero xs
count_next x xs = sum_by-append (λ y. cond (nonzero y) 1 0) (x ∷ []) xs ∙ omega (arith, one_if x)

counted : (x n m c : ℕ) → m + 0 ≡ n + min 1 x → n ≡ c → m ≡ min 1 x + c
counted x n m c e s = omega arith

-- as many cells aren't 0 as symbols aren't
pub score-laid : (from : ℤ) (xs : List ℕ) → score (laid from xs) ≡ count_by nonzero xs
score-laid from [] = score-blank
score-laid from (x ∷ xs) =
    let rest = laid (from +ℤ pos 1) xs in
    let free : cell rest from ≡ 0 = cell-laid-below (from +ℤ pos 1) xs from (omega (arith, ints)) in
    let more : score (with_cell rest from x) + 0 ≡ score rest + min 1 x =
    ap (λ n. score (with_cell rest from x) + min 1 n) (sym free) ∙ score-with_cell rest from x in
    counted x (score rest) (score (with_cell rest from x)) (count_by nonzero xs) more
    (score-laid (from +ℤ pos 1) xs) ∙ sym (count_next x xs)
