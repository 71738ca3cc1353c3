-- Sums over lists, and over the numbers below a limit.
use Rattle.std.proofs.Common.{◌≡◌, ℕ, zero, suc, ◌+◌, ◌<◌, ◌≤◌, ◌↔◌, Bool, true, false, cond, nat_eq, List}
use Rattle.std.proofs.Common.{[], ◌∷◌, map, length, flat_map, refl, ap, ap₂, sym, ◌∙◌, inl, inr, arith}
use Rattle.std.specs.Bool.{Decides}
use Rattle.std.specs.List.{sum_by}
use Rattle.std.proofs.lemmas.Bool.{cases_order}
use Rattle.std.proofs.lemmas.Bool.Decides.{Decides-eqb, same_from_decides}
use Rattle.std.proofs.lemmas.List.Sums.{sum_by-append, sum_by-cons}

module _ {X : Type 0} (f : X → ℕ) where
  pub sum_by-map : {W : Type 0} (g : W → X) (ws : List W) → sum_by f (map g ws) ≡ sum_by (λ w. f (g w)) ws
  sum_by-map g [] = refl
  sum_by-map g (w ∷ ws) = sum_by-cons f (g w) (map g ws) ∙ ap (λ n. f (g w) + n) (sum_by-map g ws)
      ∙ sym (sum_by-cons (λ v. f (g v)) w ws)

  pub sum_by-flat_map : {W : Type 0} (g : W → List X) (ws : List W)
      → sum_by f (flat_map g ws) ≡ sum_by (λ w. sum_by f (g w)) ws
  sum_by-flat_map g [] = refl
  sum_by-flat_map g (w ∷ ws) = sum_by-append f (g w) (flat_map g ws)
      ∙ ap (λ n. sum_by f (g w) + n) (sum_by-flat_map g ws) ∙ sym (sum_by-cons (λ v. sum_by f (g v)) w ws)

  pub sum_by-each : (g : X → ℕ) → ((x : X) → f x ≡ g x) → (xs : List X) → sum_by f xs ≡ sum_by g xs
  sum_by-each g each [] = refl
  sum_by-each g each (x ∷ xs) = sum_by-cons f x xs ∙ ap₂ ◌+◌ (each x) (sum_by-each g each xs)
      ∙ sym (sum_by-cons g x xs)

pub length-sum : {X : Type 0} (xs : List X) → length xs ≡ sum_by (λ x. 1) xs
length-sum [] = refl
length-sum (x ∷ xs) = omega (arith, sum_by-cons (λ y. 1) x xs, length-sum xs)

-- the sum over so many numbers from k on
abbrev pub sum_from : ℕ → ℕ → (ℕ → ℕ) → ℕ
sum_from k zero f = 0
sum_from k (suc n) f = f k + sum_from (k + 1) n f

pub sum_from-each : (k n : ℕ) (f g : ℕ → ℕ) → ((x : ℕ) → k ≤ x → x < k + n → f x ≡ g x)
    → sum_from k n f ≡ sum_from k n g
sum_from-each k zero f g each = refl
sum_from-each k (suc n) f g each = ap₂ ◌+◌ (each k (omega arith) (omega arith))
    (sum_from-each (k + 1) n f g (λ x low high. each x (omega (arith, low)) (omega (arith, high))))

sum_from-zeros : (k n : ℕ) → sum_from k n (λ x. 0) ≡ 0
sum_from-zeros k zero = refl
sum_from-zeros k (suc n) = let rest = sum_from-zeros (k + 1) n in omega (arith, rest)

sum_from-plus : (k n : ℕ) (f g : ℕ → ℕ) → sum_from k n (λ x. f x + g x) ≡ sum_from k n f + sum_from k n g
sum_from-plus k zero f g = refl
sum_from-plus k (suc n) f g = let rest = sum_from-plus (k + 1) n f g in omega (arith, rest)

-- sums of sums in the other order
sum_from-swapped : (j m k n : ℕ) (h : ℕ → ℕ → ℕ)
    → sum_from k n (λ x. sum_from j m (h x)) ≡ sum_from j m (λ y. sum_from k n (λ x. h x y))
sum_from-swapped j m k zero h = sym (sum_from-zeros j m)
sum_from-swapped j m k (suc n) h = ap (λ rest. sum_from j m (h k) + rest) (sum_from-swapped j m (k + 1) n h)
    ∙ sym (sum_from-plus j m (h k) (λ y. sum_from (k + 1) n (λ x. h x y)))

-- what one number alone gives
abbrev at : ℕ → ℕ → ℕ → ℕ
at y c x = cond (nat_eq x y) c 0

at-same : (x y c : ℕ) → x ≡ y → at y c x ≡ c
at-same x y c e = ap (λ b. cond b c 0)
    (same_from_decides (nat_eq x y) true (Decides-eqb x y) ((λ _. e), (λ _. refl)))

at-other : (x y c : ℕ) → (x ≡ y → ⊥) → at y c x ≡ 0
at-other x y c differ = by_test (nat_eq x y) (Decides-eqb x y) where
  by_test : (b : Bool) → Decides b (x ≡ y) → cond b c 0 ≡ 0
  by_test true d = absurd (differ (d.0 refl))
  by_test false d = refl

sum_at_none : (y c k n : ℕ) → y < k → sum_from k n (at y c) ≡ 0
sum_at_none y c k zero below = refl
sum_at_none y c k (suc n) below = ap₂ ◌+◌ (at-other k y c (λ e. omega (arith, below, e)))
    (sum_at_none y c (k + 1) n (omega (arith, below)))

sum_at : (y c k n : ℕ) → k ≤ y → y < k + n → sum_from k n (at y c) ≡ c
sum_at y c k zero low high = absurd (omega (arith, low, high))
sum_at y c k (suc n) low high = elim (cases_order k y) [
  | inl e ↦ omega (arith, at-same k y c e, sum_at_none y c (k + 1) n (omega (arith, e)))
  | inr (inl less) ↦
      (let here = at-other k y c (λ e. omega (arith, less, e)) in
      omega (arith, here, sum_at y c (k + 1) n (omega (arith, less)) (omega (arith, high))))
  | inr (inr more) ↦ absurd (omega (arith, low, more))
]

-- over new names in place of old ones, where the numbers below n keep among themselves
pub sum_from-renamed : (new old : ℕ → ℕ) → ((x : ℕ) → old (new x) ≡ x) → ((y : ℕ) → new (old y) ≡ y) → (n : ℕ)
    → ((x : ℕ) → (x < n) ↔ (new x < n)) → (f : ℕ → ℕ) → sum_from 0 n (λ x. f (new x)) ≡ sum_from 0 n f
sum_from-renamed new old old_of_new new_of_old n named f =
    sum_from-each 0 n (λ x. f (new x)) (λ x. sum_from 0 n (λ y. at (old y) (f y) x))
    (λ x low high. let there = (named x).0 (omega (arith, high)) in
    sym (sum_from-each 0 n (λ y. at (old y) (f y) x) (at (new x) (f (new x))) (λ y a b. turned x y)
    ∙ sum_at (new x) (f (new x)) 0 n (omega arith) (omega (arith, there))))
    ∙ sum_from-swapped 0 n 0 n (λ x y. at (old y) (f y) x)
    ∙ sum_from-each 0 n (λ y. sum_from 0 n (at (old y) (f y))) f
    (λ y low high. sum_at (old y) (f y) 0 n (omega arith) (back y (omega (arith, high)))) where
      back : (y : ℕ) → y < n → old y < 0 + n
      back y less =
          omega (arith, (named (old y)).1 (let same = new_of_old y in omega (arith, less, same)))

      turned : (x y : ℕ) → at (old y) (f y) x ≡ at (new x) (f (new x)) y
      turned x y = by_test (nat_eq y (new x)) (Decides-eqb y (new x)) where
        by_test : (b : Bool) → Decides b (y ≡ new x) → at (old y) (f y) x ≡ cond b (f (new x)) 0
        by_test true d =
            let e = d.0 refl in
            at-same x (old y) (f y) (sym (old_of_new x) ∙ ap old (sym e)) ∙ ap f e
        by_test false d = at-other x (old y) (f y)
            (λ e. let wrong = d.1 (sym (new_of_old y) ∙ ap new (sym e)) in absurd cc)
