-- Lists of bytes that are compared and counted 32 at a time.
use Rattle.std.proofs.Common.{◌≡◌, ℕ, ◌+◌, ◌-◌, ◌*◌, ◌≤◌, ◌%◌, ◌^◌, Bool, true, false, not, cond, eqb, List}
use Rattle.std.proofs.Common.{[], ◌∷◌, ◌++◌, map, length, take, drop, count_by, refl, sym, ap, ◌∙◌, arith, w8}
use Rattle.std.proofs.Math.Seq.{take-add, take-length}
use Rattle.std.proofs.lemmas.Bool.Decides.{Decides-eqb}
use Rattle.std.proofs.lemmas.List.{take-append-drop, drop-take, take-append-le, length-take-le, length-drop}
use Rattle.std.proofs.lemmas.List.Sums.{sum_by-append, count_by-le-length}
use Rattle.std.proofs.lemmas.Simd.{tops_compared, mask_l-mod, length-zip2}
use lib.Lanes.{zip2, mask_l, top, chunk}
use mir.Val.{hbits, bits}

abbrev pub differ : ℕ → ℕ → Bool
differ a b = not (eqb a b)

abbrev pub nonzero : ℕ → Bool
nonzero x = not (eqb x 0)

-- ---- lanes

no_bit : (b : Bool) (n : ℕ) → cond b 1 0 + 2 * n ≡ 0 → (b ≡ false) × (n ≡ 0)
no_bit true n e = absurd (omega arith)
no_bit false n e = (refl, omega arith)

not_apart : (b : Bool) → not b ≡ false → b ≡ true
not_apart true e = refl
not_apart false e = sym e

none_differs : (xs ys : List ℕ) → length xs ≡ length ys → mask_l (zip2 differ xs ys) ≡ 0 → xs ≡ ys
none_differs [] [] e m = refl
none_differs [] (y ∷ ys) e m = absurd (omega arith)
none_differs (x ∷ xs) [] e m = absurd (omega arith)
none_differs (x ∷ xs) (y ∷ ys) e m =
    let parts = no_bit (differ x y) (mask_l (zip2 differ xs ys)) m in
    let heads : x ≡ y = (Decides-eqb x y).0 (not_apart (eqb x y) parts.0) in
    let tails : xs ≡ ys = none_differs xs ys (omega arith) parts.1 in
    λ i. heads i ∷ tails i

itself : (x : ℕ) → differ x x ≡ false
itself x = ap not ((Decides-eqb x x).1 refl)

same_mask : (xs : List ℕ) → mask_l (zip2 differ xs xs) ≡ 0
same_mask [] = refl
same_mask (x ∷ xs) = ap (λ b. cond b 1 0 + 2 * mask_l (zip2 differ xs xs)) (itself x)
    ∙ omega (arith, same_mask xs)

-- what the mask of the lanes that differ tells
mask_is : (xs ys : List ℕ) → length xs ≡ 32 → length ys ≡ 32
    → mask_l (map (top (hbits w8)) (zip2 (λ a b. cond (differ a b) (2 ^ bits w8 - 1) 0) xs ys)) % 2 ^ 64
    ≡ mask_l (zip2 differ xs ys)
mask_is xs ys ex ey = ap (λ ms. mask_l ms % 2 ^ 64) (tops_compared w8 differ xs ys)
    ∙ mask_l-mod (zip2 differ xs ys) 64 (omega (arith, length-zip2 differ xs ys (ex ∙ sym ey)))

pub lanes_equal : (xs ys : List ℕ) → length xs ≡ 32 → length ys ≡ 32
    → eqb (mask_l (map (top (hbits w8)) (zip2 (λ a b. cond (differ a b) (2 ^ bits w8 - 1) 0) xs ys)) % 2 ^ 64)
    0 ≡ true → xs ≡ ys
lanes_equal xs ys ex ey t =
    none_differs xs ys (ex ∙ sym ey) (sym (mask_is xs ys ex ey) ∙ (Decides-eqb _ 0).0 t)

pub equal_lanes : (xs ys : List ℕ) → length xs ≡ 32 → length ys ≡ 32 → xs ≡ ys
    → eqb (mask_l (map (top (hbits w8)) (zip2 (λ a b. cond (differ a b) (2 ^ bits w8 - 1) 0) xs ys)) % 2 ^ 64)
    0 ≡ true
equal_lanes xs ys ex ey same =
    (Decides-eqb _ 0).1 (mask_is xs ys ex ey ∙ ap (λ zs. mask_l (zip2 differ xs zs)) (sym same)
    ∙ same_mask xs)

-- ---- fronts and rests

pub take_less : (m n : ℕ) (xs : List ℕ) → m ≤ n → m ≤ length xs → take m (take n xs) ≡ take m xs
take_less m n xs le within =
    let more : m + (n - m) ≡ n = omega arith in
    let long = length-take-le m xs within in
    ap (take m) (ap (λ k. take k xs) (sym more) ∙ take-add m (n - m) xs)
    ∙ take-append-le m (take m xs) (take (n - m) (drop m xs)) (omega (arith, long))
    ∙ ap (λ k. take k (take m xs)) (sym long) ∙ take-length (take m xs)

-- equal fronts have equal parts
pub chunk_of_equal : (xs ys : List ℕ) (n i : ℕ) → i + 32 ≤ n → n ≤ length xs → n ≤ length ys
    → take n xs ≡ take n ys → chunk i 32 xs ≡ chunk i 32 ys
chunk_of_equal xs ys n i le a b e =
    let front : take (i + 32) xs ≡ take (i + 32) ys = sym (take_less (i + 32) n xs le (omega arith))
    ∙ ap (take (i + 32)) e ∙ take_less (i + 32) n ys le (omega arith) in
    sym (drop-take i 32 xs) ∙ ap (drop i) front ∙ drop-take i 32 ys

-- one more part
pub front_more : (xs ys : List ℕ) (i j : ℕ) → j ≡ i + 32 → take i xs ≡ take i ys
    → chunk i 32 xs ≡ chunk i 32 ys → take j xs ≡ take j ys
front_more xs ys i j ej e c = ap (λ k. take k xs) ej ∙ take-add i 32 xs ∙ (λ t. e t ++ c t)
    ∙ sym (ap (λ k. take k ys) ej ∙ take-add i 32 ys)

-- lists are equal where their fronts and rests are
pub equal_halves : (xs ys : List ℕ) (n : ℕ) → take n xs ≡ take n ys → drop n xs ≡ drop n ys → xs ≡ ys
equal_halves xs ys n a b = sym (take-append-drop n xs) ∙ (λ t. a t ++ b t) ∙ take-append-drop n ys

-- ---- counting

pub count_parts : (n : ℕ) (xs : List ℕ)
    → count_by nonzero (take n xs) + count_by nonzero (drop n xs) ≡ count_by nonzero xs
count_parts n xs = sym (sum_by-append (λ x. cond (nonzero x) 1 0) (take n xs) (drop n xs))
    ∙ ap (count_by nonzero) (take-append-drop n xs)

pub count_more : (xs : List ℕ) (i j : ℕ) → j ≡ i + 32
    → count_by nonzero (take i xs) + count_by nonzero (chunk i 32 xs) ≡ count_by nonzero (take j xs)
count_more xs i j e =
    sym (ap (λ k. count_by nonzero (take k xs)) e ∙ ap (count_by nonzero) (take-add i 32 xs)
    ∙ sum_by-append (λ x. cond (nonzero x) 1 0) (take i xs) (chunk i 32 xs))

pub count_small : (n : ℕ) (xs : List ℕ) → n ≤ length xs → count_by nonzero (take n xs) ≤ n
count_small n xs le = omega (arith, count_by-le-length nonzero (take n xs), length-take-le n xs le)

-- all that is left from n on
pub whole_rest : (n : ℕ) (xs : List ℕ) → take (length xs - n) (drop n xs) ≡ drop n xs
whole_rest n xs = ap (λ k. take k (drop n xs)) (sym (length-drop n xs)) ∙ take-length (drop n xs)
