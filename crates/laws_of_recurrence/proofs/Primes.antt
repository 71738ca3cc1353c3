-- Each number above 1 has a prime divisor.
use Rattle.std.proofs.Common.{◌≡◌, ℕ, zero, suc, ◌+◌, ◌*◌, ◌/◌, ◌%◌, ◌<◌, ◌≤◌, inl, inr, ap, sym, subst, ◌∙◌}
use Rattle.std.proofs.Common.{arith}
use Rattle.std.proofs.Math.Nat.{div-add-mod, mul-mod_right, mul_assoc}
use Rattle.std.proofs.lemmas.Bool.{cases_lt, cases_eq}
use Rattle.laws_of_recurrence.specs.Seen.{IsPrime}

-- a prime divisor, and what it divides the number into
pub record HasPrime (n : ℕ) : Type 0 where
  pub prime : ℕ
  pub is_prime : IsPrime prime
  pub rest : ℕ
  pub is : n ≡ prime * rest

-- no number from 2 on below d divides n
NoneBelow : ℕ → ℕ → Type 0
NoneBelow n d = (k : ℕ) → 1 < k → k < d → n % k ≡ 0 → ⊥

grows : (a b : ℕ) → 1 < a → 1 < b → a < a * b
grows a zero one two = absurd (omega (arith, two))
grows a (suc zero) one two = absurd (omega (arith, two))
grows a (suc (suc b)) one two = omega (arith, one)

-- what divides a divisor divides
divides_on : (n q r a b : ℕ) → n ≡ q * r → q ≡ a * b → n % a ≡ 0
divides_on n q r a b is parts =
    let e : n ≡ a * (b * r) = is ∙ ap (λ x. x * r) parts ∙ mul_assoc a b r in
    ap (λ x. x % a) e ∙ mul-mod_right a (b * r)

zero_out : (n a b : ℕ) → n ≡ a * b → 1 < n → 0 < a
zero_out n zero b is some = absurd (omega (arith, is, some))
zero_out n (suc a) b is some = omega arith

zero_out_right : (n a b : ℕ) → n ≡ a * b → 1 < n → 0 < b
zero_out_right n a zero is some = absurd (omega (arith, is, some))
zero_out_right n a (suc b) is some = omega arith

-- the least divisor is prime
least_is_prime : (n q : ℕ) → 1 < q → n ≡ q * (n / q) → NoneBelow n q → IsPrime q
unfolding NoneBelow
least_is_prime n q above is none = record {
  above = above;
  only = λ a b parts. elim (cases_lt 1 a) [
    | inl more ↦ elim (cases_lt 1 b) [
      | inl other ↦ absurd (none a more (let g = grows a b more other in subst (λ x. a < x) (sym parts) g)
          (divides_on n q (n / q) a b is parts))
      | inr few ↦ inr (let some = zero_out_right q a b parts above in omega (arith, few, some))
    ]
    | inr few ↦ inl (let some = zero_out q a b parts above in omega (arith, few, some))
  ];
}

search_from : (fuel n d : ℕ) → n < d + fuel → 1 < d → d ≤ n → NoneBelow n d → HasPrime n
unfolding NoneBelow
search_from zero n d far above within none = absurd (omega (arith, far, within))
search_from (suc fuel) n d far above within none = elim (cases_eq (n % d) 0) [
  | inl divides ↦
      let is : n ≡ d * (n / d) = let e = div-add-mod n d in omega (arith, e, divides) in
      record { prime = d; is_prime = least_is_prime n d above is none; rest = n / d; is = is }
  | inr other ↦ elim (cases_lt d n) [
    | inl less ↦ search_from fuel n (suc d) (omega (arith, far)) (omega (arith, above)) less
        (λ k one below divides. elim (cases_lt k d) [
          | inl before ↦ none k one before divides
          | inr more ↦ let e : k ≡ d = omega (arith, below, more) in
              other (subst (λ x. n % x ≡ 0) e divides)
        ])
    | inr more ↦
        let e : d ≡ n = omega (arith, within, more) in
        let itself : n % n ≡ 0 = let one = mul-mod_right n 1 in
        let by_one : n * 1 ≡ n = omega arith in subst (λ x. x % n ≡ 0) by_one one in
        absurd (other (subst (λ x. n % x ≡ 0) (sym e) itself))
  ]
]

pub has_prime : (n : ℕ) → 1 < n → HasPrime n
unfolding NoneBelow
has_prime n above =
    search_from n n 2 (omega arith) (omega arith) above
    (λ k one below divides. absurd (omega (arith, one, below)))
