-- Of more numbers below n than n, two are the same.
use Rattle.std.proofs.Common.{◌≡◌, ℕ, zero, suc, ◌+◌, ◌<◌, ◌≤◌, ◌⊎◌, inl, inr, Bool, true, false, List}
use Rattle.std.proofs.Common.{[], ◌∷◌, ◌||◌, length, refl, sym, subst, arith}
use Rattle.std.proofs.Math.Dec.{eqb}
use Rattle.std.proofs.lemmas.Bool.{eqb-true}
use Rattle.std.proofs.lemmas.Bool.Decides.{eqb_tells}
use Rattle.std.proofs.lemmas.Map.Steps.{length-le_from_distinct_below}
use Rattle.std.specs.List.{AllByRecursion, IsDistinct, list_any}

-- f m to f 0
values : (ℕ → ℕ) → ℕ → List ℕ
values f zero = f 0 ∷ []
values f (suc m) = f (suc m) ∷ values f m

length-values : (f : ℕ → ℕ) (m : ℕ) → length (values f m) ≡ m + 1
unfolding values
length-values f zero = refl
length-values f (suc m) = let before = length-values f m in omega (arith, before)

-- f has the value x at some number up to m
record IsTakenBy (f : ℕ → ℕ) (m x : ℕ) : Type 0 where
  at : ℕ
  few : at ≤ m
  is : f at ≡ x

-- f has the same value at two numbers up to m
pub record HasTwins (f : ℕ → ℕ) (m : ℕ) : Type 0 where
  pub first : ℕ
  pub second : ℕ
  pub in_order : first < second
  pub few : second ≤ m
  pub same : f first ≡ f second

taken_later : (f : ℕ → ℕ) (m x : ℕ) → IsTakenBy f m x → IsTakenBy f (suc m) x
taken_later f m x taken = record {
  at = taken.at;
  few = let few = taken.few in omega (arith, few);
  is = taken.is;
}

taken_here : (f : ℕ → ℕ) (m x : ℕ) → f m ≡ x → IsTakenBy f m x
taken_here f m x e = record { at = m; few = omega arith; is = e }

-- a value is among them or differs from each
among : (f : ℕ → ℕ) (m x : ℕ) → IsTakenBy f m x ⊎ AllByRecursion (λ y. eqb x y ≡ false) (values f m)
unfolding values
among f zero x = elim (eqb_tells x (f 0)) [
  | inl same ↦ inl (taken_here f 0 x (sym same.1))
  | inr apart ↦ inr (apart.0, tt)
]
among f (suc m) x = elim (eqb_tells x (f (suc m))) [
  | inl same ↦ inl (taken_here f (suc m) x (sym same.1))
  | inr apart ↦ elim (among f m x) [
    | inl taken ↦ inl (taken_later f m x taken)
    | inr others ↦ inr (apart.0, others)
  ]
]

twins_later : (f : ℕ → ℕ) (m : ℕ) → HasTwins f m → HasTwins f (suc m)
twins_later f m twins = record {
  first = twins.first;
  second = twins.second;
  in_order = twins.in_order;
  few = let few = twins.few in omega (arith, few);
  same = twins.same;
}

twins_here : (f : ℕ → ℕ) (m : ℕ) → IsTakenBy f m (f (suc m)) → HasTwins f (suc m)
twins_here f m taken = record {
  first = taken.at;
  second = suc m;
  in_order = let few = taken.few in omega (arith, few);
  few = omega arith;
  same = taken.is;
}

twins_or_distinct : (f : ℕ → ℕ) (m : ℕ) → HasTwins f m ⊎ IsDistinct eqb (values f m)
unfolding values IsDistinct
twins_or_distinct f zero = inr (tt, tt)
twins_or_distinct f (suc m) = elim (twins_or_distinct f m) [
  | inl pair ↦ inl (twins_later f m pair)
  | inr distinct ↦ elim (among f m (f (suc m))) [
    | inl taken ↦ inl (twins_here f m taken)
    | inr others ↦ inr (others, distinct)
  ]
]

or_parts : (a b : Bool) → (a || b) ≡ true → (a ≡ true) ⊎ (b ≡ true)
or_parts true b e = inl refl
or_parts false b e = inr e

-- what is found among them is a value of f
taken_by_list : (f : ℕ → ℕ) (m q : ℕ) → list_any (eqb q) (values f m) ≡ true → IsTakenBy f m q
unfolding values
taken_by_list f zero q found = elim (or_parts (eqb q (f 0)) false found) [
  | inl same ↦ taken_here f 0 q (sym (eqb-true q (f 0) same))
  | inr never ↦ absurd cc
]
taken_by_list f (suc m) q found = elim (or_parts (eqb q (f (suc m))) (list_any (eqb q) (values f m)) found) [
  | inl same ↦ taken_here f (suc m) q (sym (eqb-true q (f (suc m)) same))
  | inr before ↦ taken_later f m q (taken_by_list f m q before)
]

-- n + 1 values below n have two that are the same
pub twins : (f : ℕ → ℕ) (n : ℕ) → ((i : ℕ) → i ≤ n → f i < n) → HasTwins f n
twins f n below = elim (twins_or_distinct f n) [
  | inl pair ↦ pair
  | inr distinct ↦
      let few = length-le_from_distinct_below (values f n) n distinct
      (λ q found. small q (taken_by_list f n q found)) in
      absurd (omega (arith, few, length-values f n))
] where
  small : (q : ℕ) → IsTakenBy f n q → q < n
  small q taken = subst (λ v. v < n) taken.is (below taken.at taken.few)
