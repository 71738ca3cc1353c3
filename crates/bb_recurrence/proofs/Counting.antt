-- The cost of a result, from those of the check and of the recurrence.
use Rattle.std.proofs.Common.{◌≡◌, ℕ, ◌+◌, ◌-◌, ◌*◌, ◌<◌, ◌≤◌, ◌^◌, inl, inr, arith}
use Rattle.std.proofs.Math.Nat.{mul-le-mul_right}
use Rattle.std.proofs.lemmas.Bool.{cases_eq}
use Rattle.bb_machine.specs.Limits.{Bounds}
use Rattle.bb_machine.specs.Machine.{Table}
use Rattle.bb_sim.specs.declared.meter.Meter.{Meter}
use Rattle.bb_cert.specs.declared.verdict.Verdict.{Verdict}
use Rattle.bb_cert.specs.checker.ClaimMeter.{CountsWindow}
use Rattle.bb_recurrence.specs.Finding.{CountsPair, NamesPair}
use Rattle.bb_recurrence.specs.Period.{CountsTests}
use Rattle.bb_recurrence.specs.Recurrence.{CountsAtMost, CountsLong, CountsRecurrence, CountsShift}
use Rattle.bb_recurrence.proofs.ConfirmedPairs.{CountsSecond}
use Rattle.bb_recurrence.proofs.Reductions.{few_primes}

-- a check and a recurrence stay within 160 times the limit of steps, since fewer than 40 primes count
pub few_in_all : (first second checked old own limit : ℕ) → CountsAtMost first second old own → first < second
    → second ≤ limit → limit ≤ 10 ^ 12 → checked ≤ limit → old ≡ 0 → checked + own ≤ 160 * limit
few_in_all first second checked old own limit here order inside accepted within none =
    let few = few_primes here.primes (second - first) 1 (omega arith) (omega (arith, here.few_primes))
    (omega (arith, inside, accepted)) in
    let times : here.primes * (4 * (second - first)) ≤ 39 * (4 * (second - first)) =
    mul-le-mul_right (4 * (second - first)) (omega (arith, few)) in
    let counted = here.few in
    omega (arith, counted, times, order, inside, within, none)

-- a recorded run costs its second step
pub short_at_most : (first second old new : ℕ) → first < second → new ≤ old + second
    → CountsAtMost first second old new
short_at_most first second old new order few =
    record { primes = 0; few_primes = omega (arith, order); few = omega (arith, few) }

pub shift_no_less : (first second period old new : ℕ) → CountsShift first second period old new → old ≤ new
shift_no_less first second period old new here = elim (cases_eq period (second - first)) [
  | inl whole ↦ let shift = here.whole whole in omega (arith, shift)
  | inr less ↦ let shift = here.less less in omega (arith, shift)
]

-- a long one costs no more than its two steps, its period, and the tests
pub long_few : (first second period old new : ℕ) (here : CountsLong first second period old new)
    → new ≤ old + first + second + period + here.primes * (4 * (second - first))
long_few first second period old new here =
    let tests = here.few_tests in
    elim (cases_eq period (second - first)) [
      | inl whole ↦ let shift = here.shift.whole whole in omega (arith, tests, shift)
      | inr less ↦ let shift = here.shift.less less in omega (arith, tests, shift)
    ]

module _ (first second old started tested : ℕ) (start : started ≡ old + first + second)
    (tests : CountsTests (second - first) started tested) where
  -- so much at most, also where the shift is not found
  pub at_most : (new period : ℕ) → first + period ≤ second → new ≤ tested + period
      → CountsAtMost first second old new
  at_most new period within shift = record {
    primes = tests.primes;
    few_primes = tests.few_primes;
    few = (let counted = tests.counted in omega (arith, start, counted, shift, within));
  }

  pub counts_long : (new period : ℕ) → started ≤ tested → CountsShift first second period tested new
      → CountsLong first second period old new
  counts_long new period more shift = record {
    tested = tested;
    no_less = omega (arith, start, more);
    primes = tests.primes;
    few_primes = tests.few_primes;
    few_tests = (let counted = tests.counted in omega (arith, start, counted));
    shift = shift;
  }

-- its cost after the one of a check
long_after : (first second period own : ℕ) → CountsLong first second period 0 own
    → CountsLong first second period second (second + own)
long_after first second period own here =
    let no_less = here.no_less in
    let few_tests = here.few_tests in
    record {
      tested = second + here.tested;
      no_less = omega (arith, no_less);
      primes = here.primes;
      few_primes = here.few_primes;
      few_tests = omega (arith, few_tests);
      shift = record {
        whole = λ whole. let s = here.shift.whole whole in omega (arith, s);
        less = λ less. let s = here.shift.less less in omega (arith, s);
      };
    }

module _ (table : Table) (bounds : Bounds) (verdict : Verdict) (first second period : ℕ) (checked : Meter)
    (names : NamesPair verdict first second) (counts : CountsSecond second checked)
    (window : CountsWindow table bounds verdict checked.most_cells) where
  pub counts_recorded : second ≤ 4096 → CountsPair table bounds verdict period checked
  counts_recorded few = record {
    first = first;
    second = second;
    names = names;
    recorded = λ short. counts.steps;
    long = λ many. absurd (omega (arith, few, many));
    window = window;
    no_levels = counts.no_levels;
    no_nodes = counts.no_nodes;
  }

  pub counts_pair : (old own : ℕ) → 4096 < second → old ≡ 0 → CountsRecurrence first second period old own
      → CountsPair table bounds verdict period (record checked { steps = checked.steps + own })
  counts_pair old own many none here = record {
    first = first;
    second = second;
    names = names;
    recorded = λ few. absurd (omega (arith, few, many));
    long = λ late. rw counts.steps (long_after first second period own (rw none at here.long late));
    window = window;
    no_levels = counts.no_levels;
    no_nodes = counts.no_nodes;
  }
