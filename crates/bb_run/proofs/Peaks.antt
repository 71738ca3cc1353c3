-- What is known of lines, and of the greatest of their counts, as one line more comes.
use Rattle.std.proofs.Common.{◌≡◌, ℕ, ◌⊎◌, ◌↔◌, max, IsTrue, Bool, List, [], ◌∷◌, ◌++◌}
use Rattle.std.proofs.Common.{sym, subst, ◌∙◌, inl, inr, arith}
use Rattle.std.specs.List.{AllByRecursion}
use Rattle.std.proofs.lemmas.Bool.{cases_lt}
use Rattle.bb_run.specs.Summary.{SomeHas, IsPeak}

-- of each line what follows, and of one line more
pub all_more : {P Q : List ℕ → Type 0} → ((line : List ℕ) → P line → Q line) → (lines : List (List ℕ))
    {last : List ℕ} → AllByRecursion P lines → Q last → AllByRecursion Q (lines ++ last ∷ [])
all_more follows [] all holds = (holds, tt)
all_more follows (line ∷ lines) all holds =
    (follows line all.0, all_more follows lines all.1 holds)

all_but_last : (P : List ℕ → Type 0) (lines : List (List ℕ)) {last : List ℕ}
    → AllByRecursion P (lines ++ last ∷ []) → AllByRecursion P lines × P last
all_but_last P [] all = (tt, all.0)
all_but_last P (line ∷ lines) all = let rest = all_but_last P lines all.1 in ((all.0, rest.0), rest.1)

-- whether all are fine
pub clean_more : (P : List ℕ → Type 0) (lines : List (List ℕ)) {last : List ℕ} {old new : Bool}
    → IsTrue old ↔ AllByRecursion P lines → IsTrue new ↔ (IsTrue old × P last)
    → IsTrue new ↔ AllByRecursion P (lines ++ last ∷ [])
clean_more P lines before one = (
  λ e. let both = one.0 e in all_more (λ line p. p) lines (before.0 both.0) both.1,
  λ all. let parts = all_but_last P lines all in one.1 (before.1 parts.0, parts.1),
)

module _ (Count : List ℕ → ℕ → Type 0) where
  some_of_more : (lines : List (List ℕ)) {last : List ℕ} {n : ℕ} → SomeHas Count lines n ⊎ Count last n
      → SomeHas Count (lines ++ last ∷ []) n
  some_of_more [] (inl none) = absurd none
  some_of_more [] (inr has) = inl has
  some_of_more (line ∷ lines) (inl (inl has)) = inl has
  some_of_more (line ∷ lines) (inl (inr some)) = inr (some_of_more lines (inl some))
  some_of_more (line ∷ lines) (inr has) = inr (some_of_more lines (inr has))

  -- a line without a count comes
  pub IsPeak-past : {lines : List (List ℕ)} {last : List ℕ} {old new : ℕ} → IsPeak Count lines old
      → ((n : ℕ) → Count last n → ⊥) → new ≡ old → IsPeak Count (lines ++ last ∷ []) new
  IsPeak-past {lines} before never same = rw same (record {
    bound = all_more (λ line bound. bound) lines before.bound (λ n has. absurd (never n has));
    reached = elim before.reached [ inl none ↦ inl none | inr some ↦ inr (some_of_more lines (inl some)) ];
  })

  -- a line with just one count comes
  pub IsPeak-over : {lines : List (List ℕ)} {last : List ℕ} {old count new : ℕ} → IsPeak Count lines old
      → Count last count → ((n : ℕ) → Count last n → n ≡ count) → new ≡ max old count
      → IsPeak Count (lines ++ last ∷ []) new
  IsPeak-over {lines} {last} {old} {count} {new} before has only is = record {
    bound = all_more (λ line bound n h. let few = bound n h in omega (arith, few, is)) lines before.bound
        (λ n other. let same = only n other in omega (arith, same, is));
    reached = elim (cases_lt old count) [
      | inl less ↦ (let here : count ≡ new = omega (arith, less, is) in
          inr (some_of_more lines (inr (subst (λ k. Count last k) here has))))
      | inr more ↦ (let stays : old ≡ new = omega (arith, more, is) in elim before.reached [
        | inl none ↦ inl (sym stays ∙ none)
        | inr some ↦ inr (some_of_more lines (inl (subst (λ k. SomeHas Count lines k) stays some)))
      ])
    ];
  }
