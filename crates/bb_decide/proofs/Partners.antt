-- Powers of two below a number, and the one that is kept while a search goes on.
use Rattle.std.proofs.Common.{◌≡◌, ℕ, ◌+◌, ◌*◌, ◌^◌, ◌<◌, ◌≤◌, inl, inr, refl, sym, ◌∙◌, ap, add-one, arith}
use Rattle.std.proofs.Math.Nat.{one-le-pow, pow-succ'}
use Rattle.std.proofs.Math.Pow.{pow_mono}
use Rattle.std.proofs.lemmas.Bool.{cases_lt}
use Rattle.bb_decide.specs.Partner.{IsKept, IsPartner}

pub kept_at_first : IsKept 0 0
kept_at_first = inl (refl, refl)

-- the kept number is below the next step
pub kept_below : (k n : ℕ) → IsKept k n → k < n + 1
kept_below k n (inl first) = omega (arith, first.0, first.1)
kept_below k n (inr partner) = partner.below

double : (e : ℕ) → 2 ^ (e + 1) ≡ 2 * 2 ^ e
double e = rw add-one (pow-succ' 2 e)

-- where the next step reaches twice what is kept, it is kept itself
pub keeps_next : (k n : ℕ) → IsKept k n → 2 * k ≤ n + 1 → IsKept (n + 1) (n + 1)
keeps_next k n (inl first) high = inr (record {
  exponent = 0;
  is_power = omega (arith, first.0);
  below = omega arith;
  greatest = omega arith;
})
keeps_next k n (inr partner) high = inr (record {
  exponent = partner.exponent + 1;
  is_power =
      let same : n + 1 ≡ 2 * k = omega (arith, partner.greatest) in
      same ∙ ap (λ m. 2 * m) partner.is_power ∙ sym (double partner.exponent);
  below = omega arith;
  greatest = omega arith;
})

-- else what is kept stays
pub keeps_on : (k n : ℕ) → IsKept k n → n + 1 < 2 * k → IsKept k (n + 1)
keeps_on k n (inl first) low = absurd (omega (arith, first.1, low))
keeps_on k n (inr partner) low = inr (record {
  exponent = partner.exponent;
  is_power = partner.is_power;
  below = omega (arith, partner.below);
  greatest = omega (arith, low);
})

-- a number has one partner
pub partner_is_unique : (p q j : ℕ) → IsPartner p j → IsPartner q j → p ≡ q
partner_is_unique p q j first second = elim (cases_lt first.exponent second.exponent) [
  | inl lower ↦ absurd (too_low p q j first second lower)
  | inr least ↦ elim (cases_lt second.exponent first.exponent) [
    | inl lower ↦ absurd (too_low q p j second first lower)
    | inr most ↦
        let same : first.exponent ≡ second.exponent = omega arith in
        first.is_power ∙ ap (λ e. 2 ^ e) same ∙ sym second.is_power
  ]
] where
  too_low : (x y i : ℕ) (one : IsPartner x i) (other : IsPartner y i) → one.exponent < other.exponent → ⊥
  too_low x y i one other lower =
      let next : one.exponent + 1 ≤ other.exponent = omega (arith, lower) in
      let grows : 2 ^ (one.exponent + 1) ≤ 2 ^ other.exponent = pow_mono next in
      omega (arith, grows, double one.exponent, one.is_power, other.is_power, one.greatest, other.below)

-- the partner of the next step is what is kept: step 1 has none
pub is_kept_one : {k n m p : ℕ} → IsKept k n → m ≡ n + 1 → IsPartner p m → p ≡ k
is_kept_one (inl first) next partner =
    let some = one-le-pow partner.exponent 2 (omega arith) in
    absurd (omega (arith, first.0, first.1, some, partner.is_power, partner.below, next))
is_kept_one {k} {n} {m} {p} (inr kept) next partner = partner_is_unique p k m partner (rw next kept)

-- what is kept is its partner, but before the first step
pub is_partner : {k n m : ℕ} → IsKept k n → m ≡ n + 1 → (k ≡ n → ⊥) → IsPartner k m
is_partner (inl first) next apart = absurd (apart (omega (arith, first.0, first.1)))
is_partner (inr kept) next apart = rw next kept
