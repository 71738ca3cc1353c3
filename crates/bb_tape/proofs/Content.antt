-- What users of any tape need to know of its cells.
use Rattle.std.proofs.Common.{◌≡◌, ◌≢◌, ℕ, zero, suc, ◌+◌, ◌-◌, min, ℤ, Bool, true, false, cond, Option, Some}
use Rattle.std.proofs.Common.{None, is_some, refl, ap, sym, ◌∙◌, arith}
use Rattle.std.specs.Bool.{Decides}
use Rattle.std.specs.Ordering.{int_cmp, int_eq}
use Rattle.std.specs.Cmp.{int_cmp_total, signed_Decides}
use Rattle.std.specs.FinMap.{get, len, get-empty, get-insert, get-remove, len-empty, len-insert, len-remove}
use Rattle.std.specs.FinMap.{empty_of_len, same_map, int_cmp-IsAntisymmetric}
use Rattle.bb_tape.specs.Content.{Content, symbol_of, blank, cell, with_cell, score}

symbol-cond-none : (b : Bool) (o : Option ℕ) → symbol_of (cond b None o) ≡ cond b 0 (symbol_of o)
symbol-cond-none true o = refl
symbol-cond-none false o = refl

symbol-cond-some : (b : Bool) (k : ℕ) (o : Option ℕ) → symbol_of (cond b (Some k) o) ≡ cond b (suc k)
    (symbol_of o)
symbol-cond-some true k o = omega arith
symbol-cond-some false k o = refl

same_symbol : (a b : Option ℕ) → symbol_of a ≡ symbol_of b → a ≡ b
same_symbol None None e = refl
same_symbol None (Some k) e = absurd (omega arith)
same_symbol (Some k) None e = absurd (omega arith)
same_symbol (Some k) (Some l) e = let kl : k ≡ l = omega arith in ap Some kl

pub cell-blank : (p : ℤ) → cell blank p ≡ 0
unfolding cell blank
cell-blank p = ap symbol_of (get-empty int_cmp p)

-- a write, at any position
pub cell-with_cell : (c : Content) (p : ℤ) (v : ℕ) (q : ℤ)
    → cell (with_cell c p v) q ≡ cond (int_eq q p) v (cell c q)
unfolding cell with_cell
cell-with_cell c p zero q = ap symbol_of (get-remove int_cmp_total c p q) ∙ symbol-cond-none _ _
cell-with_cell c p (suc k) q = ap symbol_of (get-insert int_cmp_total c p k q) ∙ symbol-cond-some _ _ _

-- a choice, where what decides it is known
chosen : {A : Type 0} (b : Bool) (x y : A) → b ≡ true → cond b x y ≡ x
chosen b x y e = ap (λ t. cond t x y) e

passed : {A : Type 0} (b : Bool) (x y : A) (P : Type 0) → (b ≡ true → P) → ¬ P → cond b x y ≡ y
passed true x y P holds otherwise = absurd (otherwise (holds refl))
passed false x y P holds otherwise = refl

pub cell-with_cell-same : (c : Content) (p : ℤ) (v : ℕ) → cell (with_cell c p v) p ≡ v
cell-with_cell-same c p v = cell-with_cell c p v p ∙ chosen _ _ _ ((signed_Decides p p).1 refl)

pub cell-with_cell-other : (c : Content) (p : ℤ) (v : ℕ) (q : ℤ) → q ≢ p → cell (with_cell c p v) q ≡ cell c q
cell-with_cell-other c p v q apart = cell-with_cell c p v q
    ∙ passed _ _ _ (q ≡ p) (signed_Decides q p).0 apart

-- equal cells make equal contents
pub same_content : (a b : Content) → ((p : ℤ) → cell a p ≡ cell b p) → a ≡ b
unfolding cell
same_content a b alike = same_map int_cmp_total int_cmp-IsAntisymmetric a b (λ p. same_symbol _ _ (alike p))

by_test : (b : Bool) (P Q : Type 0) → Decides b P → (P → Q) → (¬ P → Q) → Q
by_test true P Q d here there = here (d.0 refl)
by_test false P Q d here there = there (λ p. let e = d.1 p in cc)

-- a position is p or another
pub by_position : (q p : ℤ) (P : Type 0) → (q ≡ p → P) → (q ≢ p → P) → P
by_position q p P here there = by_test (int_eq q p) (q ≡ p) P (signed_Decides q p) here there

-- of two writes at one position the last counts
pub with_cell-with_cell : (c : Content) (p : ℤ) (v w : ℕ) → with_cell (with_cell c p v) p w ≡ with_cell c p w
with_cell-with_cell c p v w = same_content _ _ (λ q.
    by_position q p _
    (λ e. rw e (cell-with_cell-same _ p w ∙ sym (cell-with_cell-same c p w)))
    (λ ne. cell-with_cell-other _ p w q ne ∙ cell-with_cell-other c p v q ne
    ∙ sym (cell-with_cell-other c p w q ne)))

-- to write what is there changes nothing
pub with_cell-cell : (c : Content) (p : ℤ) → with_cell c p (cell c p) ≡ c
with_cell-cell c p =
    same_content
    _ _ (λ q. by_position q p _ (λ e. rw e (cell-with_cell-same c p _))
    (λ ne. cell-with_cell-other c p _ q ne))

-- to put back what was there changes nothing
pub put_back : (c : Content) (p : ℤ) (v : ℕ) → with_cell (with_cell c p v) p (cell c p) ≡ c
put_back c p v = with_cell-with_cell c p v _ ∙ with_cell-cell c p

pub score-blank : score blank ≡ 0
unfolding score blank
score-blank = len-empty int_cmp ℕ

some_in : (c : Content) (p : ℤ) → len c ≡ 0 → get c p ≡ None
some_in c p e = ap (λ d. get d p) (empty_of_len c e) ∙ get-empty int_cmp p

score_less : (n m : ℕ) (o : Option ℕ) → (n ≡ 0 → o ≡ None) → m ≡ cond (is_some o) (n - 1) n
    → m + min 1 (symbol_of o) ≡ n
score_less n m None gone e = omega arith
score_less zero m (Some k) gone e = let wrong = gone refl in cc
score_less (suc n) m (Some k) gone e = omega arith

score_more : (n m v : ℕ) (o : Option ℕ) → m ≡ cond (is_some o) n (n + 1)
    → m + min 1 (symbol_of o) ≡ n + min 1 (suc v)
score_more n m v None e = omega arith
score_more n m v (Some k) e = omega arith

-- A write takes one from the score where the cell wasn't 0, and adds one where it isn't 0 then.
pub score-with_cell : (c : Content) (p : ℤ) (v : ℕ)
    → score (with_cell c p v) + min 1 (cell c p) ≡ score c + min 1 v
unfolding score cell with_cell
score-with_cell c p zero = score_less _ _ (get c p) (some_in c p) (len-remove int_cmp_total c p) ∙ omega arith
score-with_cell c p (suc k) = score_more _ _ k (get c p) (len-insert int_cmp_total c p k)
