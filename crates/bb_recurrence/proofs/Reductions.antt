-- A period divided by the primes of a known one, as far as the quotients are periods.
use Rattle.std.proofs.Common.{◌≡◌, ℕ, zero, suc, ◌+◌, ◌*◌, ◌/◌, ◌%◌, ◌<◌, ◌≤◌, ◌^◌, ◌⊎◌, inl, inr, ap, sym, subst, ◌∙◌}
use Rattle.std.proofs.Common.{arith, pow-suc}
use Rattle.std.proofs.Math.Nat.{eq_of_mul-eq-mul_left, mul-le-mul_left, mul-le-mul_right, mul_assoc, mul_comm}
use Rattle.std.proofs.Math.Nat.{one-le-pow, pow-le-pow_right}
use Rattle.std.proofs.lemmas.Bool.{cases_lt}
use Rattle.bb_machine.specs.Machine.{Table}
use Rattle.laws_of_recurrence.specs.Recurrence.{IsMultipleOf, transition_at, Repeats}
use Rattle.laws_of_recurrence.specs.Seen.{Differs, IsPrime}
use Rattle.laws_of_recurrence.proofs.Facts.{has_multiples}
use Rattle.bb_recurrence.specs.Factors.{HasNoneBelow, IsPartWithout}
use Rattle.bb_recurrence.specs.Period.{CountsTests, IsLeastFrom, IsReduced}
use Rattle.bb_recurrence.proofs.Divisors.{divides_one_of, divides_product, none_more, one_has_none, quotient_of}

-- ---- one prime

pub multiple_of_itself : (n : ℕ) → IsMultipleOf n n
multiple_of_itself n = (1, omega arith)

pub divides_further : (known period divisor : ℕ) → period % divisor ≡ 0 → IsMultipleOf period known
    → IsMultipleOf (period / divisor) known
divides_further known period divisor divides is = (
  is.0 * divisor,
  is.1 ∙ ap (λ x. is.0 * x) (quotient_of period divisor divides) ∙ sym (mul_assoc is.0 divisor (period / divisor)),
)

-- a quotient that is no period ends the reduction
pub reduced_by_test : (table : Table) (first known divisor period : ℕ) → 1 < divisor → period % divisor ≡ 0
    → IsMultipleOf period known → Repeats table first period → Differs table first (period / divisor)
    → IsReduced table first known divisor period
reduced_by_test table first known divisor period above divides multiple repeats differs = record {
  divides = multiple;
  repeats = repeats;
  no_less = λ less is.
      let same : period / divisor ≡ less = eq_of_mul-eq-mul_left divisor (omega (arith, above)) (period / divisor) less
      (sym (quotient_of period divisor divides) ∙ is) in
      subst (Differs table first) same differs;
}

-- so does a period without the divisor
pub reduced_by_remainder : (table : Table) (first known divisor period : ℕ) → (period % divisor ≡ 0 → ⊥)
    → IsMultipleOf period known → Repeats table first period → IsReduced table first known divisor period
reduced_by_remainder table first known divisor period other multiple repeats = record {
  divides = multiple;
  repeats = repeats;
  no_less = λ less is. absurd (other (divides_product period divisor less is));
}

-- ---- all primes

-- the least divisor is prime
grows : (a b : ℕ) → 1 < a → 1 < b → a < a * b
grows a zero one two = absurd (omega (arith, two))
grows a (suc zero) one two = absurd (omega (arith, two))
grows a (suc (suc b)) one two = omega (arith, one)

some_left : (n a b : ℕ) → n ≡ a * b → 1 < n → 0 < a
some_left n zero b is some = absurd (omega (arith, is, some))
some_left n (suc a) b is some = omega arith

some_right : (n a b : ℕ) → n ≡ a * b → 1 < n → 0 < b
some_right n a zero is some = absurd (omega (arith, is, some))
some_right n a (suc b) is some = omega arith

pub least_is_prime : (n q : ℕ) → 1 < q → n % q ≡ 0 → HasNoneBelow n q → IsPrime q
least_is_prime n q above divides none = record {
  above = above;
  only = λ a b parts. elim (cases_lt 1 a) [
    | inl more ↦ elim (cases_lt 1 b) [
      | inl other ↦ absurd (none a more (let g = grows a b more other in subst (λ x. a < x) (sym parts) g)
          (divides_product n a (b * (n / q)) (quotient_of n q divides ∙ ap (λ x. x * (n / q)) parts
          ∙ mul_assoc a b (n / q))))
      | inr few ↦ inr (let some = some_right q a b parts above in omega (arith, few, some))
    ]
    | inr few ↦ inl (let some = some_left q a b parts above in omega (arith, few, some))
  ];
}

-- a number above 1 is at least as great as its least divisor
pub at_least : (n d : ℕ) → 1 < n → HasNoneBelow n d → d ≤ n
at_least n d above none = elim (cases_lt n d) [
  | inl less ↦ absurd (none n above less (divides_product n n 1 (omega arith)))
  | inr more ↦ more
]

-- with a remainder it is greater
pub less_of_remainder : (n d : ℕ) → 1 < n → HasNoneBelow n d → (n % d ≡ 0 → ⊥) → d < n
less_of_remainder n d above none other = elim (cases_lt d n) [
  | inl less ↦ less
  | inr more ↦
      let low = at_least n d above none in
      let e : n ≡ d = omega (arith, low, more) in
      absurd (other (subst (λ x. n % x ≡ 0) e (divides_product n n 1 (omega arith))))
]

-- the period, and the part of the distance whose primes are not tried yet
pub record IsTried (table : Table) (first distance period rest divisor : ℕ) : Type 0 where
  pub repeats : Repeats table first period
  pub within : period ≤ distance
  pub some : 0 < rest
  pub none : HasNoneBelow rest divisor
  pub open_or_none : (r less : ℕ) → IsPrime r → period ≡ r * less
      → (rest % r ≡ 0) ⊎ Differs table first less

-- the steps of the tests so far
pub record CountsSoFar (distance rest old new : ℕ) : Type 0 where
  pub primes : ℕ
  pub few : 2 ^ primes * rest ≤ distance
  pub counted : new ≤ old + primes * (4 * distance)

pub tried_at_first : (table : Table) (first distance : ℕ) → Repeats table first distance
    → IsTried table first distance distance distance 2
tried_at_first table first distance repeats = record {
  repeats = repeats;
  within = omega arith;
  some = repeats.some;
  none = λ k more below divides. absurd (omega (arith, more, below));
  open_or_none = λ r less prime is. inl (divides_product distance r less is);
}

pub counts_at_first : (distance old : ℕ) → CountsSoFar distance distance old old
counts_at_first distance old = record { primes = 0; few = omega arith; counted = omega arith }

-- a multiple of a period is one, so a divisor of no period is none
differs_of_multiple : (table : Table) (first less k : ℕ) → Differs table first (k * less) → Differs table first less
differs_of_multiple table first less k differs all = differs (has_multiples (transition_at table) first less k all)

-- a prime that divides a prime is it
same_prime : (q r : ℕ) → IsPrime q → IsPrime r → q % r ≡ 0 → q ≡ r
same_prime q r prime other divides = elim (prime.only r (q / r) (quotient_of q r divides)) [
  | inl one ↦ let above = other.above in absurd (omega (arith, above, one))
  | inr one ↦ quotient_of q r divides ∙ ap (λ x. r * x) one ∙ omega arith
]

smaller : (k period known : ℕ) → 0 < known → known ≡ k * period → period ≤ known
smaller zero period known some is = absurd (omega (arith, some, is))
smaller (suc k) period known some is = omega (arith, is)

module _ (table : Table) (first distance period rest divisor : ℕ)
    (here : IsTried table first distance period rest divisor) (above : 1 < divisor) (divides : rest % divisor ≡ 0)
    (period' rest' : ℕ) (reduced : IsReduced table first period divisor period')
    (part : IsPartWithout rest divisor rest') where
  none_after : HasNoneBelow rest' (divisor + 1)
  none_after = none_more rest' divisor
      (λ k more below by_k. here.none k more below
      (divides_product rest k (part.power * (rest' / k)) (part.is
      ∙ ap (λ x. part.power * x) (quotient_of rest' k by_k) ∙ sym (mul_assoc part.power k (rest' / k))
      ∙ ap (λ x. x * (rest' / k)) (mul_comm part.power k) ∙ mul_assoc k part.power (rest' / k))))
      part.no_more

  open_after : (r less : ℕ) → IsPrime r → period' ≡ r * less → (rest' % r ≡ 0) ⊎ Differs table first less
  open_after r less prime is =
      let k = reduced.divides.0 in
      let known : period ≡ r * (k * less) = reduced.divides.1 ∙ ap (λ x. k * x) is ∙ sym (mul_assoc k r less)
      ∙ ap (λ x. x * less) (mul_comm k r) ∙ mul_assoc r k less in
      elim (here.open_or_none r (k * less) prime known) [
        | inl by_r ↦ elim (divides_one_of r part.power rest' prime (subst (λ x. x % r ≡ 0) part.is by_r)) [
          | inl power ↦
              let same = same_prime divisor r (least_is_prime rest divisor above divides here.none) prime
              (part.by_divisor r prime power) in
              inr (reduced.no_less less (subst (λ x. period' ≡ x * less) (sym same) is))
          | inr other ↦ inl other
        ]
        | inr differs ↦ inr (differs_of_multiple table first less k differs)
      ]

  pub tried_more : IsTried table first distance period' rest' (divisor + 1)
  tried_more =
      let less = smaller reduced.divides.0 period' period here.repeats.some reduced.divides.1 in
      let within = here.within in
      record {
        repeats = reduced.repeats;
        within = omega (arith, less, within);
        some = part.some;
        none = none_after;
        open_or_none = open_after;
      }

more_primes : (p distance rest rest' : ℕ) → 2 ^ p * rest ≤ distance → 2 * rest' ≤ rest
    → 2 ^ suc p * rest' ≤ distance
more_primes p distance rest rest' few half =
    let low : 2 ^ p * (2 * rest') ≤ 2 ^ p * rest = mul-le-mul_left (2 ^ p) half in
    let one : 2 ^ suc p * rest' ≡ 2 ^ p * (2 * rest') = ap (λ x. x * rest') (pow-suc 2 p) ∙ mul_assoc (2 ^ p) 2 rest' in
    omega (arith, low, one, few)

one_prime_more : (p distance old mid new period : ℕ) → mid ≤ old + p * (4 * distance) → period ≤ distance
    → new ≤ mid + 4 * period → new ≤ old + suc p * (4 * distance)
one_prime_more p distance old mid new period before within now =
    let e : suc p * (4 * distance) ≡ 4 * distance + p * (4 * distance) = omega arith in
    omega (arith, before, within, now, e)

pub counts_more : (distance rest rest' old mid new period : ℕ) → CountsSoFar distance rest old mid
    → period ≤ distance → new ≤ mid + 4 * period → 2 * rest' ≤ rest → CountsSoFar distance rest' old new
counts_more distance rest rest' old mid new period here within now half = record {
  primes = suc here.primes;
  few = more_primes here.primes distance rest rest' here.few half;
  counted = one_prime_more here.primes distance old mid new period here.counted within now;
}

-- at the end no prime is left
pub least_at_end : (table : Table) (first distance period rest divisor : ℕ) → rest ≤ 1
    → IsTried table first distance period rest divisor → IsLeastFrom table first period
least_at_end table first distance period rest divisor end here =
    let some = here.some in
    let one : rest ≡ 1 = omega (arith, end, some) in
    record {
      repeats = here.repeats;
      no_less = λ q less prime is. elim (here.open_or_none q less prime is) [
        | inl divides ↦ absurd (one_has_none q prime.above (subst (λ x. x % q ≡ 0) one divides))
        | inr differs ↦ differs
      ];
    }

pub counts_at_end : (distance rest old new : ℕ) → 0 < rest → CountsSoFar distance rest old new
    → CountsTests distance old new
counts_at_end distance rest old new some here =
    let few = here.few in
    let low : 2 ^ here.primes * 1 ≤ 2 ^ here.primes * rest = mul-le-mul_left (2 ^ here.primes) some in
    record { primes = here.primes; few_primes = omega (arith, low, few); counted = here.counted }

-- a distance within the limits has fewer than 40 prime factors
pub few_primes : (p distance rest : ℕ) → 0 < rest → 2 ^ p * rest ≤ distance → distance ≤ 10 ^ 12 → p < 40
few_primes p distance rest some few within = elim (cases_lt p 40) [
  | inl less ↦ less
  | inr more ↦
      let above : 0 < 2 = omega arith in
      let low : 2 ^ 40 ≤ 2 ^ p = pow-le-pow_right above more in
      let times : 2 ^ p * 1 ≤ 2 ^ p * rest = mul-le-mul_left (2 ^ p) some in
      absurd (omega (arith, low, times, few, within))
]

pub room_for_test : (distance rest old mid period : ℕ) → 0 < rest → CountsSoFar distance rest old mid
    → distance ≤ 10 ^ 12 → period ≤ distance → old < 2 ^ 48 → mid + 4 * period < 2 ^ 64
room_for_test distance rest old mid period some here within less start =
    let few = few_primes here.primes distance rest some here.few within in
    let counted = here.counted in
    let times : here.primes * (4 * distance) ≤ 40 * (4 * distance) = mul-le-mul_right (4 * distance) (omega (arith, few)) in
    omega (arith, counted, times, within, less, start)

pub rest_within : (distance rest old new : ℕ) → CountsSoFar distance rest old new → rest ≤ distance
rest_within distance rest old new here =
    let few = here.few in
    let above : 0 < 2 = omega arith in
    let one : 1 ≤ 2 ^ here.primes = one-le-pow here.primes 2 above in
    let low : 1 * rest ≤ 2 ^ here.primes * rest = mul-le-mul_right rest one in
    omega (arith, low, few)

-- the steps of a test that fails count as those of one prime more
pub counts_early : (distance rest old mid new period : ℕ) → 1 < rest → CountsSoFar distance rest old mid
    → period ≤ distance → new ≤ mid + 4 * period → CountsTests distance old new
counts_early distance rest old mid new period above here within now =
    counts_at_end distance 1 old new (omega arith)
    (counts_more distance rest 1 old mid new period here within now (omega (arith, above)))

-- after the tests there is room for one period more
pub room_after_tests : (distance old new period : ℕ) → CountsTests distance old new → distance ≤ 10 ^ 12
    → old < 2 ^ 48 → period ≤ 10 ^ 12 → new + period < 2 ^ 64
room_after_tests distance old new period tests within start short =
    let few = few_primes tests.primes distance 1 (omega arith) (omega (arith, tests.few_primes)) within in
    let counted = tests.counted in
    let times : tests.primes * (4 * distance) ≤ 40 * (4 * distance) =
    mul-le-mul_right (4 * distance) (omega (arith, few)) in
    omega (arith, counted, times, within, start, short)
