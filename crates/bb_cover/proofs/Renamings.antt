-- Names in lists.
use Rattle.std.proofs.Common.{◌≡◌, ℕ, zero, suc, ◌<◌, List, [], ◌∷◌, length, get_or, inl, inr, refl, sym, ◌∙◌}
use Rattle.std.proofs.Common.{arith}
use Rattle.std.proofs.lemmas.Bool.{cases_lt}
use Rattle.std.proofs.lemmas.List.{get_or_past}
use Rattle.bb_cover.specs.Names.{name_in}

pub any_default : (names : List ℕ) (n d : ℕ) → n < length names → get_or names n d ≡ get_or names n 0
any_default [] n d h = absurd (omega (arith, h))
any_default (x ∷ names) zero d h = refl
any_default (x ∷ names) (suc n) d h = any_default names n d (omega (arith, h))

-- each number's own name
pub own_names : (names : List ℕ) (whole : ℕ) → length names ≡ whole
    → ((n : ℕ) → n < whole → get_or names n 0 ≡ n) → (n : ℕ) → name_in names n ≡ n
own_names names whole long own n = elim (cases_lt n whole) [
  | inl below ↦ any_default names n n (omega (arith, below, long)) ∙ own n below
  | inr past ↦ get_or_past names n n (omega (arith, past, long))
]

-- a number below has a name below, since that has a number
pub name_below : (new old : List ℕ) (whole : ℕ) → length old ≡ whole
    → ((n : ℕ) → name_in old (name_in new n) ≡ n) → (n : ℕ) → n < whole → name_in new n < whole
name_below new old whole long back n h = elim (cases_lt (name_in new n) whole) [
  | inl below ↦ below
  | inr past ↦
      let own = get_or_past old (name_in new n) (name_in new n) (omega (arith, past, long)) in
      let there = back n in
      let same : n ≡ name_in new n = sym there ∙ own in
      absurd (omega (arith, same, past, h))
]
