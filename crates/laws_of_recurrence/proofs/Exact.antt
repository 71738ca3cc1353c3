-- What is seen of few steps makes start and period exact.
use Rattle.std.proofs.Common.{◌≡◌, ℕ, zero, suc, ◌+◌, ◌-◌, ◌*◌, ◌<◌, ◌≤◌, inl, inr, ap, sym, subst, ◌∙◌}
use Rattle.std.proofs.Common.{arith}
use Rattle.std.proofs.Math.Nat.{mul_assoc}
use Rattle.std.proofs.lemmas.Bool.{cases_lt}
use Rattle.bb_machine.specs.Machine.{Table}
use Rattle.laws_of_recurrence.specs.Recurrence.{IsMultipleOf, Repeats, RepeatsExactly, transition_at}
use Rattle.laws_of_recurrence.specs.Recurrence.{ExactIsUnique, ExactTellsAll, PeriodsAreMultiples}
use Rattle.laws_of_recurrence.specs.Recurrence.{StartsServeAllPeriods}
use Rattle.laws_of_recurrence.specs.Seen.{Differs, ExactIsSeen, IsPrime, IsSeenStart, SeenIsExact}
use Rattle.laws_of_recurrence.proofs.Primes.{has_prime}
use Rattle.laws_of_recurrence.proofs.Sequences.{Has, common, has_multiples, repeats_before}
use Rattle.laws_of_recurrence.proofs.Sequences.{seen_is_period, serves}

pub starts_serve_all_periods : StartsServeAllPeriods
starts_serve_all_periods table s p t q one two = record {
  some = two.some;
  never = two.never;
  again = serves (transition_at table) s p t q one.some one.again two.again;
}

one_start : (s t : ℕ) → s ≤ t → t ≤ s → s ≡ t
one_start s t a b = omega (arith, a, b)

pub exact_is_unique : ExactIsUnique
exact_is_unique table s p t q one two = (
  one_start s t (one.least_start t q two.repeats) (two.least_start s p one.repeats),
  one_start p q (one.least_period t q two.repeats) (two.least_period s p one.repeats),
)

-- a divisor that is no less than the number is the number
whole : (k g p : ℕ) → p ≡ k * g → 0 < p → p ≤ g → g ≡ p
whole zero g p is some h = absurd (omega (arith, is, some))
whole (suc zero) g p is some h = omega (arith, is)
whole (suc (suc k)) g p is some h = absurd (omega (arith, is, some, h))

pub periods_are_multiples : PeriodsAreMultiples
periods_are_multiples table start period s p exact other =
    let here = exact.repeats in
    let also = starts_serve_all_periods table start period s p here other in
    let both = common (transition_at table) start period p here.some also.some here.again also.again in
    let less = exact.least_period start both.part
    (record { some = both.some; never = here.never; again = both.has }) in
    let times = both.divides_first in
    let same : both.part ≡ period = whole times.0 both.part period times.1 here.some less in
    subst (λ d. IsMultipleOf d p) same both.divides_second

pub exact_tells_all : ExactTellsAll
exact_tells_all table start period s p exact = (
  (λ other.
      (other.some, exact.least_start s p other, periods_are_multiples table start period s p exact other)),
  (λ told. record {
    some = told.0;
    never = exact.repeats.never;
    again = λ n late.
        let here : start ≤ n = omega (arith, told.1, late) in
        ap (λ q. transition_at table (n + q)) told.2.1
        ∙ has_multiples (transition_at table) start period told.2.0 exact.repeats.again n here;
  }),
)

-- a divisor is no greater
pub divisor_below : (k g q : ℕ) → q ≡ k * g → 0 < q → g ≤ q
divisor_below zero g q is some = absurd (omega (arith, is, some))
divisor_below (suc k) g q is some = omega (arith, is)

-- the parts of a product above 0
positive_part : (n q less : ℕ) → n ≡ q * less → 0 < n → 0 < less
positive_part n q zero parts some = absurd (omega (arith, parts, some))
positive_part n q (suc less) parts some = omega arith

below_product : (n q less : ℕ) → n ≡ q * less → 1 < q → 0 < less → less < n
below_product n zero less parts above some = absurd (omega (arith, above))
below_product n (suc zero) less parts above some = absurd (omega (arith, above))
below_product n (suc (suc q)) less parts above some = omega (arith, parts, some)

-- from what is known of the first step of a pair on
module _ (table : Table) (first distance start period : ℕ) (pair : Repeats table first distance)
    (some : 0 < period) (at_first : Has (transition_at table) first period)
    (no_less : (q less : ℕ) → IsPrime q → period ≡ q * less → Differs table first less)
    (begins : IsSeenStart table first distance start) where
  -- the distance is a period from the start on, and so is the period
  at_start : Has (transition_at table) start distance
  at_start = repeats_before (transition_at table) start first distance pair.again begins.same

  is_repeated : Repeats table start period
  is_repeated = record {
    some = some;
    never = pair.never;
    again = serves (transition_at table) start distance first period pair.some at_start at_first;
  }

  starts_least : (s p : ℕ) → Repeats table s p → start ≤ s
  starts_least s p other = elim (cases_lt s start) [
    | inl less ↦
        let before : (start - 1) + 1 ≡ start = omega (arith, less) in
        absurd (begins.differs (start - 1) (sym before)
        (serves (transition_at table) s p first distance other.some other.again pair.again (start - 1)
        (omega (arith, less))))
    | inr more ↦ more
  ]

  -- a period that divides this one is this one
  no_less_part : (k g : ℕ) → period ≡ k * g → Has (transition_at table) first g → g ≡ period
  no_less_part zero g is has = absurd (omega (arith, is, some))
  no_less_part (suc zero) g is has = omega (arith, is)
  no_less_part (suc (suc k)) g is has =
      let above : 1 < suc (suc k) = omega arith in
      let prime = has_prime (suc (suc k)) above in
      let parts : period ≡ prime.prime * (prime.rest * g) = is ∙ ap (λ x. x * g) prime.is
      ∙ mul_assoc prime.prime prime.rest g in
      absurd (no_less prime.prime (prime.rest * g) prime.is_prime parts
      (has_multiples (transition_at table) first g prime.rest has))

  period_least : (s p : ℕ) → Repeats table s p → period ≤ p
  period_least s p other =
      let here : Has (transition_at table) first p = serves (transition_at table) first distance s p pair.some
      pair.again other.again in
      let both = common (transition_at table) first period p some other.some at_first here in
      let same = no_less_part both.divides_first.0 both.part both.divides_first.1 both.has in
      let below = divisor_below both.divides_second.0 both.part p both.divides_second.1 other.some in
      subst (λ x. x ≤ p) same below

  pub exact_from : RepeatsExactly table start period
  exact_from = record { repeats = is_repeated; least_period = period_least; least_start = starts_least }

pub seen_is_exact : SeenIsExact
seen_is_exact table first second start period in_order pair seen =
    let on : first + (second - first) ≡ second = omega (arith, in_order) in
    exact_from table first (second - first) start period pair seen.some
    (seen_is_period (transition_at table) first (second - first) period pair.some seen.divides pair.again
    (λ m late soon. seen.same m late (subst (λ x. m + period < x) on soon))) seen.no_less seen.begins

-- ---- and each exact start and period is seen

-- a proper part of the exact period is no period
part_differs : (table : Table) (first start period q less : ℕ) → RepeatsExactly table start period → 1 < q
    → period ≡ q * less → Differs table first less
part_differs table first start period q less exact above parts again =
    let some = exact.repeats.some in
    let some_part = positive_part period q less parts some in
    let less_period : less < period = below_product period q less parts above some_part in
    let at_least = exact.least_period first less
    (record { some = some_part; never = exact.repeats.never; again = again }) in
    absurd (omega (arith, less_period, at_least))

pub exact_is_seen : ExactIsSeen
exact_is_seen table first second start period in_order pair exact =
    let repeats = exact.repeats in
    let early = exact.least_start first (second - first) pair in
    let all = (starts_serve_all_periods table start period first (second - first) repeats pair).again in
    record {
      some = repeats.some;
      divides = periods_are_multiples table start period first (second - first) exact pair;
      same = λ n late soon. repeats.again n (omega (arith, early, late));
      no_less = λ q less prime parts.
          part_differs table first start period q less exact prime.above parts;
      begins = record {
        no_later = early;
        same = λ n late soon. all n late;
        differs = λ n before same.
            let earlier : Has (transition_at table) n (second - first) =
            repeats_before (transition_at table) n start (second - first) all (λ m late soon.
            let e : n ≡ m = omega (arith, before, late, soon) in
            subst (λ k. transition_at table (k + (second - first)) ≡ transition_at table k) e same) in
            let at_least = exact.least_start n (second - first)
            (record { some = pair.some; never = pair.never; again = earlier }) in
            absurd (omega (arith, before, at_least));
      };
    }
