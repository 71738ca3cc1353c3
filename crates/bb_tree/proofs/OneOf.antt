-- One of a list's elements for which something holds.
use Rattle.std.proofs.Common.{◌≡◌, ℕ, zero, suc, ◌<◌, Bool, true, false, cond, ◌⊎◌, ◌↔◌, inl, inr, List, []}
use Rattle.std.proofs.Common.{◌∷◌, ◌++◌, length, get_or, map, refl, sym, subst, arith}
use Rattle.std.specs.List.{Contains, filter, flat_map}
use Rattle.std.specs.List.Sorted.{IsPermutation}
use Rattle.std.proofs.lemmas.List.Sorted.{Contains-permutation}
use Rattle.bb_tree.specs.Tree.{OneOf}

same : {A : Type 0} → A ↔ A
same = (λ a. a, λ a. a)

either : {A B C D : Type 0} → A ↔ B → C ↔ D → (A ⊎ C) ↔ (B ⊎ D)
either one other = (
  λ s. elim s [ inl a ↦ inl (one.0 a) | inr c ↦ inr (other.0 c) ],
  λ s. elim s [ inl b ↦ inl (one.1 b) | inr d ↦ inr (other.1 d) ],
)

pub one-append : {X : Type 0} (P : X → Type 0) (xs ys : List X)
    → OneOf P (xs ++ ys) ↔ (OneOf P xs ⊎ OneOf P ys)
one-append P [] ys = (λ one. inr one, λ one. elim one [ inl none ↦ absurd none | inr one ↦ one ])
one-append P (x ∷ xs) ys = let rest = one-append P xs ys in (
  λ one. elim one [
    | inl p ↦ inl (inl p)
    | inr one ↦ elim (rest.0 one) [ inl left ↦ inl (inr left) | inr right ↦ inr right ]
  ],
  λ one. elim one [
    | inl left ↦ elim left [ inl p ↦ inl p | inr left ↦ inr (rest.1 (inl left)) ]
    | inr right ↦ inr (rest.1 (inr right))
  ],
)

-- what holds more often
pub one_more : {X : Type 0} (P Q : X → Type 0) → ((x : X) → P x → Q x) → (xs : List X) → OneOf P xs
    → OneOf Q xs
one_more P Q more [] one = one
one_more P Q more (x ∷ xs) (inl p) = inl (more x p)
one_more P Q more (x ∷ xs) (inr one) = inr (one_more P Q more xs one)

pub one-flat_map : {X Y : Type 0} (P : X → Type 0) (f : Y → List X) (ys : List Y)
    → OneOf P (flat_map f ys) ↔ OneOf (λ y. OneOf P (f y)) ys
one-flat_map P f [] = same
one-flat_map P f (y ∷ ys) =
    let first = one-append P (f y) (flat_map f ys) in
    let rest = either same (one-flat_map P f ys) in
    (λ one. rest.0 (first.0 one), λ one. first.1 (rest.1 one))

pub one-map : {X Y : Type 0} (P : X → Type 0) (f : Y → X) (ys : List Y)
    → OneOf P (map f ys) ↔ OneOf (λ y. P (f y)) ys
one-map P f [] = same
one-map P f (y ∷ ys) = either same (one-map P f ys)

pub one-filter : {X : Type 0} (P : X → Type 0) (test : X → Bool) (xs : List X)
    → OneOf P (filter test xs) ↔ OneOf (λ x. (test x ≡ true) × P x) xs
one-filter P test [] = same
one-filter P test (x ∷ xs) = by_test (test x) (one-filter P test xs) where
  by_test : (b : Bool) → OneOf P (filter test xs) ↔ OneOf (λ x. (test x ≡ true) × P x) xs
      → OneOf P (cond b (x ∷ filter test xs) (filter test xs))
      ↔ (((b ≡ true) × P x) ⊎ OneOf (λ x. (test x ≡ true) × P x) xs)
  by_test true rest = either (λ p. (refl, p), λ both. both.1) rest
  by_test false rest = (
    λ one. inr (rest.0 one),
    λ one. elim one [
      | inl both ↦ (let wrong : false ≡ true = both.0 in absurd cc)
      | inr one ↦ rest.1 one
    ],
  )

-- an element for which something holds
found_one : {X : Type 0} (P : X → Type 0) (xs : List X) → OneOf P xs → (x : X) × Contains xs x × P x
found_one P [] one = absurd one
found_one P (x ∷ xs) (inl p) = (x, (zero, omega arith, refl), p)
found_one P (x ∷ xs) (inr one) = let found = found_one P xs one in
    (found.0, (suc found.1.0, omega (arith, found.1.1), found.1.2), found.2)

one_at : {X : Type 0} (P : X → Type 0) (xs : List X) (k : ℕ) (x : X) → k < length xs → get_or xs k x ≡ x → P x
    → OneOf P xs
one_at P [] k x less is p = absurd (omega (arith, less))
one_at P (y ∷ xs) zero x less is p = inl (subst P (sym is) p)
one_at P (y ∷ xs) (suc k) x less is p = inr (one_at P xs k x (omega (arith, less)) is p)

-- the order makes no difference
pub one_permuted : {X : Type 0} (P : X → Type 0) (xs ys : List X) → IsPermutation xs ys → OneOf P xs
    → OneOf P ys
one_permuted P xs ys same one =
    let found = found_one P xs one in
    let there = Contains-permutation xs ys found.0 same found.1 in
    one_at P ys there.0 found.0 there.1 there.2 found.2
