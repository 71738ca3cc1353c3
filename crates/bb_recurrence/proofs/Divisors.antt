-- Divisors of numbers, and the primes among them.
use Rattle.std.proofs.Common.{◌≡◌, ℕ, zero, suc, ◌+◌, ◌*◌, ◌/◌, ◌%◌, ◌<◌, ◌≤◌, ◌⊎◌, inl, inr, ap, sym, subst, ◌∙◌}
use Rattle.std.proofs.Common.{arith}
use Rattle.std.proofs.Math.Nat.{div-add-mod, mod-eq_of_lt, mod-lt, mul-add, mul-add-mod_self_left}
use Rattle.std.proofs.Math.Nat.{mul-le-mul_left, mul-le-mul_right, mul-mod_left, mul-mod_right, mul_assoc, mul_comm}
use Rattle.std.proofs.lemmas.Nat.{le-div}
use Rattle.std.proofs.lemmas.Bool.{cases_lt, cases_eq}
use Rattle.laws_of_recurrence.specs.Seen.{IsPrime}
use Rattle.bb_recurrence.specs.Factors.{HasNoneBelow, IsPartWithout}

-- a number that divides another leaves a quotient
pub quotient_of : (n d : ℕ) → n % d ≡ 0 → n ≡ d * (n / d)
quotient_of n d divides = let e = div-add-mod n d in omega (arith, e, divides)

-- a product is divided by its factors
pub divides_product : (n d k : ℕ) → n ≡ d * k → n % d ≡ 0
divides_product n d k is = ap (λ x. x % d) is ∙ mul-mod_right d k

-- no number above 1 divides 1
pub one_has_none : (d : ℕ) → 1 < d → 1 % d ≡ 0 → ⊥
one_has_none d above divides =
    let e : 1 % d ≡ 1 = mod-eq_of_lt above in omega (arith, e, divides)

-- ---- a prime that divides a product divides one of both numbers

-- the least number above 0 whose product with a number is divided by r
record IsLeastMultiple (a r n : ℕ) : Type 0 where
  some : 0 < n
  divides : (a * n) % r ≡ 0
  none : (k : ℕ) → 0 < k → k < n → (a * k) % r ≡ 0 → ⊥

least_from : (a r fuel n : ℕ) → r ≤ n + fuel → 0 < r → 0 < n
    → ((k : ℕ) → 0 < k → k < n → (a * k) % r ≡ 0 → ⊥) → (m : ℕ) × IsLeastMultiple a r m
least_from a r zero n far above some none = (
  r,
  record {
    some = above;
    divides = mul-mod_left a r;
    none = λ k more less. none k more (omega (arith, far, less));
  },
)
least_from a r (suc fuel) n far above some none = elim (cases_eq ((a * n) % r) 0) [
  | inl divides ↦ (n, record { some = some; divides = divides; none = none })
  | inr other ↦ least_from a r fuel (suc n) (omega (arith, far)) above (omega arith)
      (λ k more below divides. elim (cases_lt k n) [
        | inl less ↦ none k more less divides
        | inr late ↦ let e : k ≡ n = omega (arith, below, late) in
            other (subst (λ x. (a * x) % r ≡ 0) e divides)
      ])
]

-- the product with the remainder
product_of_parts : (a n m q y r : ℕ) → q * m + n % m ≡ n → a * m ≡ r * y
    → r * (y * q) + a * (n % m) ≡ a * n
product_of_parts a n m q y r is divides =
    let one : a * (q * m) ≡ r * (y * q) = ap (λ x. a * x) (mul_comm q m) ∙ sym (mul_assoc a m q)
    ∙ ap (λ x. x * q) divides ∙ mul_assoc r y q in
    let two : a * (q * m + n % m) ≡ a * (q * m) + a * (n % m) = mul-add a (q * m) (n % m) in
    ap (λ x. x + a * (n % m)) (sym one) ∙ sym two ∙ ap (λ x. a * x) is

-- it divides each such number
least_divides : (a r m n : ℕ) → IsLeastMultiple a r m → (a * n) % r ≡ 0 → n % m ≡ 0
least_divides a r m n least divides = elim (cases_lt 0 (n % m)) [
  | inl more ↦
      let parts = product_of_parts a n m (n / m) (a * m / r) r
      (let e = div-add-mod n m in let swap = mul_comm m (n / m) in omega (arith, e, swap))
      (quotient_of (a * m) r least.divides) in
      let e : (a * (n % m)) % r ≡ 0 = sym (mul-add-mod_self_left r (a * m / r * (n / m)) (a * (n % m)))
      ∙ ap (λ x. x % r) parts ∙ divides in
      absurd (least.none (n % m) more (mod-lt n least.some) e)
  | inr few ↦ omega (arith, few)
]

pub divides_one_of : (r a b : ℕ) → IsPrime r → (a * b) % r ≡ 0 → (a % r ≡ 0) ⊎ (b % r ≡ 0)
divides_one_of r a b prime divides =
    let above = prime.above in
    let found = least_from a r r 1 (omega arith) (omega (arith, above)) (omega arith)
    (λ k some less. absurd (omega (arith, some, less))) in
    let m = found.0 in
    let least = found.1 in
    let itself = quotient_of r m (least_divides a r m r least (mul-mod_left a r)) in
    elim (prime.only m (r / m) itself) [
      | inl one ↦ inl (let all : a * m ≡ a = ap (λ x. a * x) one ∙ omega arith in
          subst (λ x. x % r ≡ 0) all least.divides)
      | inr one ↦ inr (let all : r ≡ m = itself ∙ ap (λ x. m * x) one ∙ omega arith in
          subst (λ x. b % x ≡ 0) (sym all) (least_divides a r m b least divides))
    ]

-- ---- a number without a factor

-- a number divided by `divisor` some times
pub record IsDivided (number divisor rest : ℕ) : Type 0 where
  pub some : 0 < rest
  pub power : ℕ
  pub is : number ≡ power * rest
  pub by_divisor : (r : ℕ) → IsPrime r → power % r ≡ 0 → divisor % r ≡ 0
  pub half : (rest ≡ number) ⊎ (2 * rest ≤ number)

pub divided_at_first : (number divisor : ℕ) → 0 < number → IsDivided number divisor number
divided_at_first number divisor some = record {
  some = some;
  power = 1;
  is = omega arith;
  by_divisor = λ r prime divides. absurd (one_has_none r prime.above divides);
  half = inl (λ i. number);
}

pub some_quotient : (n d q : ℕ) → 0 < n → n ≡ d * q → 0 < q
some_quotient n d zero some is = absurd (omega (arith, some, is))
some_quotient n d (suc q) some is = omega arith

-- a divisor above 1 leaves at most half
pub half_at_most : (n d q : ℕ) → 1 < d → n ≡ d * q → 2 * q ≤ n
half_at_most n zero q above is = absurd (omega (arith, above))
half_at_most n (suc zero) q above is = absurd (omega (arith, above))
half_at_most n (suc (suc d)) q above is = omega (arith, is)

pub divided_more : (number divisor rest : ℕ) → 1 < divisor → rest % divisor ≡ 0
    → IsDivided number divisor rest → IsDivided number divisor (rest / divisor)
divided_more number divisor rest above divides here =
    let is = quotient_of rest divisor divides in
    let half = half_at_most rest divisor (rest / divisor) above is in
    record {
      some = some_quotient rest divisor (rest / divisor) here.some is;
      power = here.power * divisor;
      is = here.is ∙ ap (λ x. here.power * x) is ∙ sym (mul_assoc here.power divisor (rest / divisor));
      by_divisor = λ r prime both. elim (divides_one_of r here.power divisor prime both) [
        | inl one ↦ here.by_divisor r prime one
        | inr other ↦ other
      ];
      half = inr (elim here.half [
        | inl all ↦ omega (arith, half, all)
        | inr less ↦ omega (arith, half, less)
      ]);
    }

pub part_without : (number divisor rest : ℕ) → (rest % divisor ≡ 0 → ⊥) → IsDivided number divisor rest
    → IsPartWithout number divisor rest
part_without number divisor rest no_more here = record {
  some = here.some;
  power = here.power;
  is = here.is;
  by_divisor = here.by_divisor;
  no_more = no_more;
  half = λ divides. elim here.half [
    | inl all ↦ absurd (no_more (subst (λ x. x % divisor ≡ 0) (sym all) divides))
    | inr less ↦ less
  ];
}

-- ---- the next divisor

square_above : (n d k j : ℕ) → n ≡ k * j → d ≤ k → d ≤ j → d * d ≤ n
square_above n d k j is one two =
    let low : d * d ≤ d * j = mul-le-mul_left d two in
    let high : d * j ≤ k * j = mul-le-mul_right j one in
    omega (arith, low, high, is)

-- past the square root a number without a lesser divisor has none but itself
pub none_past_root : (n d : ℕ) → 1 < d → n / d < d → HasNoneBelow n d → HasNoneBelow n n
none_past_root n d above past none k more less divides = elim (cases_lt k d) [
  | inl before ↦ none k more before divides
  | inr late ↦
      let is = quotient_of n k divides in
      elim (cases_lt (n / k) d) [
        | inl few ↦ by_quotient (n / k) is few
        | inr many ↦
            let square = square_above n d k (n / k) is late many in
            let root : d ≤ n / d = le-div d n d (omega (arith, above)) square in
            omega (arith, root, past)
      ]
] where
  by_quotient : (j : ℕ) → n ≡ k * j → j < d → ⊥
  by_quotient zero is few = omega (arith, is, less)
  by_quotient (suc zero) is few = omega (arith, is, less)
  by_quotient (suc (suc j)) is few =
      none (suc (suc j)) (omega arith) few (divides_product n (suc (suc j)) k (is ∙ mul_comm k (suc (suc j))))

-- one divisor more was tried
pub none_more : (n d : ℕ) → HasNoneBelow n d → (n % d ≡ 0 → ⊥) → HasNoneBelow n (d + 1)
none_more n d none other k more below divides = elim (cases_lt k d) [
  | inl before ↦ none k more before divides
  | inr late ↦
      let e : k ≡ d = omega (arith, below, late) in
      other (subst (λ x. n % x ≡ 0) e divides)
]
