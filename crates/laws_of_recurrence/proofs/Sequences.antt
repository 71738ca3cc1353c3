-- Sequences that repeat from some step on: their periods.
use Rattle.std.proofs.Common.{◌≡◌, ℕ, zero, suc, ◌+◌, ◌-◌, ◌*◌, ◌<◌, ◌≤◌, inl, inr, ap, sym, subst, ◌∙◌}
use Rattle.std.proofs.Common.{arith}
use Rattle.std.proofs.Math.Nat.{le-mul_of_pos_right}
use Rattle.std.proofs.lemmas.Bool.{cases_lt, cases_order}
use Rattle.laws_of_recurrence.specs.Recurrence.{IsMultipleOf}

-- from s on, e has the period p
abbrev pub Has : {X : Type 0} → (ℕ → X) → ℕ → ℕ → Type 0
Has e s p = (n : ℕ) → s ≤ n → e (n + p) ≡ e n

module _ {X : Type 0} (e : ℕ → X) where
  -- and each multiple
  pub has_multiples : (s p k : ℕ) → Has e s p → Has e s (k * p)
  has_multiples s p zero has n late = let none : n + zero * p ≡ n = omega arith in ap e none
  has_multiples s p (suc k) has n late =
      let more : n + suc k * p ≡ (n + k * p) + p = omega arith in
      ap e more ∙ has (n + k * p) (omega (arith, late)) ∙ has_multiples s p k has n late

  -- from where it repeats with one period, it repeats with each
  pub serves : (s p t q : ℕ) → 0 < p → Has e s p → Has e t q → Has e s q
  serves s p t q some has other n late =
      let far : t ≤ t * p = le-mul_of_pos_right t some in
      let swap : (n + q) + t * p ≡ (n + t * p) + q = omega arith in
      sym (has_multiples s p t has (n + q) (omega (arith, late)))
      ∙ ap e swap
      ∙ other (n + t * p) (omega (arith, far))
      ∙ has_multiples s p t has n late

  -- and their difference
  has_difference : (s p q : ℕ) → q ≤ p → Has e s p → Has e s q → Has e s (p - q)
  has_difference s p q h has other n late =
      let sum : (n + (p - q)) + q ≡ n + p = omega (arith, h) in
      sym (other (n + (p - q)) (omega (arith, late))) ∙ ap e sum ∙ has n late

  -- a period that divides two
  pub record IsCommon (s p q : ℕ) : Type 0 where
    pub part : ℕ
    pub some : 0 < part
    pub divides_first : IsMultipleOf part p
    pub divides_second : IsMultipleOf part q
    pub has : Has e s part

  add_multiples : (d a b c : ℕ) → a + b ≡ c → IsMultipleOf d a → IsMultipleOf d b → IsMultipleOf d c
  add_multiples d a b c sum one two =
      let first = one.1 in
      let second = two.1 in
      (one.0 + two.0, omega (arith, first, second, sum))

  once : (p : ℕ) → IsMultipleOf p p
  once p = (1, omega arith)

  common_by : (fuel s p q : ℕ) → p + q ≤ fuel → 0 < p → 0 < q → Has e s p → Has e s q → IsCommon s p q
  common_by zero s p q few some other has also = absurd (omega (arith, few, some))
  common_by (suc fuel) s p q few some other has also = elim (cases_order p q) [
    | inl same ↦ record {
      part = p;
      some = some;
      divides_first = once p;
      divides_second = subst (IsMultipleOf p) same (once p);
      has = has;
    }
    | inr apart ↦ elim apart [
      | inl less ↦
          let rest = common_by fuel s p (q - p) (omega (arith, few, some, less)) some (omega (arith, less))
          has (has_difference s q p (omega (arith, less)) also has) in
          record {
            part = rest.part;
            some = rest.some;
            divides_first = rest.divides_first;
            divides_second = add_multiples rest.part p (q - p) q (omega (arith, less)) rest.divides_first
                rest.divides_second;
            has = rest.has;
          }
      | inr more ↦
          let rest = common_by fuel s (p - q) q (omega (arith, few, other, more)) (omega (arith, more)) other
          (has_difference s p q (omega (arith, more)) has also) also in
          record {
            part = rest.part;
            some = rest.some;
            divides_first = add_multiples rest.part (p - q) q p (omega (arith, more)) rest.divides_first
                rest.divides_second;
            divides_second = rest.divides_second;
            has = rest.has;
          }
    ]
  ]

  pub common : (s p q : ℕ) → 0 < p → 0 < q → Has e s p → Has e s q → IsCommon s p q
  common s p q some other has also = common_by (p + q) s p q (omega arith) some other has also

  -- ---- what is seen of a stretch

  -- places of a stretch that are some periods apart
  apart_by : (a b p k n : ℕ) → ((m : ℕ) → a ≤ m → m + p < b → e (m + p) ≡ e m) → a ≤ n → n + k * p < b
      → e (n + k * p) ≡ e n
  apart_by a b p zero n seen late soon = let none : n + zero * p ≡ n = omega arith in ap e none
  apart_by a b p (suc k) n seen late soon =
      let more : n + suc k * p ≡ (n + k * p) + p = omega arith in
      let within : (n + k * p) + p < b = omega (arith, soon, more) in
      ap e more ∙ seen (n + k * p) (omega (arith, late)) within
      ∙ apart_by a b p k n seen late (omega (arith, within))

  -- a part of a period that repeats in the stretch is a period: within the period
  seen_inside : (a l p k : ℕ) → l ≡ suc k * p → Has e a l
      → ((m : ℕ) → a ≤ m → m + p < a + l → e (m + p) ≡ e m) → (n : ℕ) → a ≤ n → n < a + l
      → e (n + p) ≡ e n
  seen_inside a l p k times has seen n late inside = elim (cases_lt (n + p) (a + l)) [
    | inl within ↦ seen n late within
    | inr over ↦
        let times_here : l ≡ k * p + p = omega (arith, times) in
        let back : ((n + p) - l) + l ≡ n + p = omega (arith, over) in
        let there : ((n + p) - l) + k * p ≡ n = omega (arith, over, times_here) in
        let late_back : a ≤ (n + p) - l = omega (arith, over) in
        ap e (sym back) ∙ has ((n + p) - l) late_back
        ∙ sym (apart_by a (a + l) p k ((n + p) - l) seen late_back
        (subst (λ m. m < a + l) (sym there) inside))
        ∙ ap e there
  ]

  -- and after it
  pub seen_by : (a l p : ℕ) → 0 < l → Has e a l → ((m : ℕ) → a ≤ m → m < a + l → e (m + p) ≡ e m)
      → (fuel n : ℕ) → n ≤ fuel → a ≤ n → e (n + p) ≡ e n
  seen_by a l p some has inside zero n few late = inside n late (omega (arith, few, late, some))
  seen_by a l p some has inside (suc fuel) n few late = elim (cases_lt n (a + l)) [
    | inl less ↦ inside n late less
    | inr past ↦
        let here : (n - l) + l ≡ n = omega (arith, past) in
        let over : ((n - l) + p) + l ≡ n + p = omega (arith, past) in
        let late_back : a ≤ n - l = omega (arith, past) in
        ap e (sym over) ∙ has ((n - l) + p) (omega (arith, late_back))
        ∙ seen_by a l p some has inside fuel (n - l) (omega (arith, few, past, some)) late_back
        ∙ sym (has (n - l) late_back) ∙ ap e here
  ]

  pub seen_is_period : (a l p : ℕ) → 0 < l → IsMultipleOf p l → Has e a l
      → ((m : ℕ) → a ≤ m → m + p < a + l → e (m + p) ≡ e m) → Has e a p
  seen_is_period a l p some multiple has seen n late = by_times multiple.0 multiple.1 where
    by_times : (k : ℕ) → l ≡ k * p → e (n + p) ≡ e n
    by_times zero times = absurd (omega (arith, times, some))
    by_times (suc k) times =
        seen_by a l p some has (seen_inside a l p k times has seen) n n (omega arith) late

  -- what repeats in a stretch before repeats from there on
  pub repeats_before : (s a l : ℕ) → Has e a l → ((n : ℕ) → s ≤ n → n < a → e (n + l) ≡ e n) → Has e s l
  repeats_before s a l has before n late = elim (cases_lt n a) [
    | inl less ↦ before n late less
    | inr more ↦ has n more
  ]
