-- A text is split at its first space in one way only.
use Rattle.std.proofs.Common.{◌≡◌, ◌≢◌, ℕ, zero, suc, ◌+◌, ◌<◌, ◌≤◌, true, List, [], ◌∷◌, ◌++◌, length, get_or}
use Rattle.std.proofs.Common.{take, drop, ap, refl, sym, ◌∙◌, subst, arith}
use Rattle.std.specs.Prelude.{◌==◌}
use Rattle.std.specs.List.{All}
use Rattle.std.proofs.Math.Seq.{drop-cons}
use Rattle.std.proofs.Math.Numerals.{add-one}
use Rattle.std.proofs.lemmas.Bool.{eq-eqb, eqb-true}
use Rattle.std.proofs.lemmas.List.{take-append-drop}
use Rattle.std.proofs.lemmas.List.Elements.{All-cons, All-head, All-nil, All-tail}

abbrev pub HasNoSpace : List ℕ → Type 0
HasNoSpace bytes = All (λ byte. byte ≢ 32) bytes

pub no_space_within : (prefix rest bytes : List ℕ) → HasNoSpace bytes → prefix ++ 32 ∷ rest ≡ bytes → ⊥
no_space_within [] rest bytes none is = All-head (λ byte. byte ≢ 32) 32 rest (subst HasNoSpace (sym is) none)
    refl
no_space_within (b ∷ prefix) rest bytes none is =
    no_space_within prefix rest (prefix ++ 32 ∷ rest)
    (All-tail (λ byte. byte ≢ 32) b (prefix ++ 32 ∷ rest) (subst HasNoSpace (sym is) none)) refl

-- no space stands before a place with none before it
pub no_space_before : (bytes : List ℕ) (at : ℕ) → at ≤ length bytes
    → ((k : ℕ) → 0 ≤ k → k < at → (get_or bytes k 0 == 32) ≡ true → ⊥) → HasNoSpace (take at bytes)
no_space_before bytes zero fits none = All-nil (λ byte. byte ≢ 32)
no_space_before [] (suc at) fits none = All-nil (λ byte. byte ≢ 32)
no_space_before (byte ∷ bytes) (suc at) fits none =
    All-cons (λ byte. byte ≢ 32) byte (take at bytes) (λ is. none 0 (omega arith) (omega arith) (eq-eqb byte 32 is))
    (no_space_before bytes at (omega arith) (λ k low l. none (suc k) (omega arith) (omega (arith, l))))

-- the bytes up to a space, the space, and the bytes after it
pub space_split : (bytes : List ℕ) (at : ℕ) → at < length bytes → (get_or bytes at 0 == 32) ≡ true
    → take at bytes ++ 32 ∷ drop (at + 1) bytes ≡ bytes
space_split bytes at fits is =
    let here : drop at bytes ≡ 32 ∷ drop (at + 1) bytes =
    drop-cons bytes at 0 fits ∙ ap (λ b. b ∷ drop (suc at) bytes) (eqb-true (get_or bytes at 0) 32 is)
    ∙ ap (λ n. 32 ∷ drop n bytes) (sym (add-one at)) in
    ap (λ b. take at bytes ++ b) (sym here) ∙ take-append-drop at bytes

-- what stands before a first space, and after it
pub same_split : (a b x y : List ℕ) → HasNoSpace a → HasNoSpace b → a ++ 32 ∷ x ≡ b ++ 32 ∷ y → (a ≡ b)
    × (x ≡ y)
same_split [] [] x y _ _ is = (refl, cc)
same_split [] (d ∷ b) x y _ q is =
    let first : d ≡ 32 = cc in absurd (All-head (λ byte. byte ≢ 32) d b q first)
same_split (c ∷ a) [] x y p _ is =
    let first : c ≡ 32 = cc in absurd (All-head (λ byte. byte ≢ 32) c a p first)
same_split (c ∷ a) (d ∷ b) x y p q is =
    let rest = same_split a b x y (All-tail (λ byte. byte ≢ 32) c a p) (All-tail (λ byte. byte ≢ 32) d b q)
    cc in
    let prefixes : a ≡ b = rest.0 in
    (cc, rest.1)
