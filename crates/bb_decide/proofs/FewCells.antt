-- Why what stays in few cells is always decided.
use Rattle.std.proofs.Common.{◌≡◌, ℕ, zero, suc, ◌+◌, ◌*◌, ◌-◌, ◌^◌, ◌<◌, ◌≤◌, inl, inr, max, Option}
use Rattle.std.proofs.Common.{Some, refl, subst, arith}
use Rattle.std.proofs.Math.Pow.{pow_mono}
use Rattle.std.proofs.lemmas.Bool.{cases_lt}
use Rattle.bb_machine.specs.Limits.{Bounds}
use Rattle.bb_machine.specs.Machine.{Table, IsMachine}
use Rattle.bb_sim.specs.FewCells.{configurations_in, IsRunning}
use Rattle.bb_sim.specs.Span.{Inside}
use Rattle.bb_sim.proofs.Facts.{earlier_is_inside, few_cells_repeat_before, runs_on}
use Rattle.bb_cert.specs.declared.verdict.Verdict.{Verdict}
use Rattle.bb_cert.specs.declared.verdict.Verdict.TheVariants.{Cycler, Translated, Undecided}
use Rattle.bb_cert.specs.declared.verdict.Why.TheVariants.{Steps}
use Rattle.bb_cert.specs.claims.Repeat.{Same}
use Rattle.bb_decide.specs.Cycle.{FindsCycle}
use Rattle.bb_decide.specs.FewCells.{HasStepsForCells, FindsInFewCells, FewCellsAreDecided}
use Rattle.bb_decide.specs.Sure.{IsFoundBy, IsLeastPower}
use Rattle.bb_decide.proofs.KnownOfVerdicts.{passes_cycles}
use Rattle.bb_decide.proofs.Sure.{finds_repeats, repeats_are_found}

-- the least power of two that is not below a number, which isn't 0; it is below the double
record IsPowerFor (m power : ℕ) : Type 0 where
  exponent : ℕ
  is_power : power ≡ 2 ^ exponent
  not_below : m ≤ power
  least : (other : ℕ) → m ≤ 2 ^ other → power ≤ 2 ^ other
  small : power < 2 * m

power_for_one : IsPowerFor 1 1
power_for_one = record {
  exponent = 0;
  is_power = refl;
  not_below = omega arith;
  least = λ other few. few;
  small = omega arith;
}

-- a power below a number is the power for the number before it, and its double is the next one
power_doubled : (m power : ℕ) → IsPowerFor m power → power < suc m → IsPowerFor (suc m) (2 * power)
power_doubled m power is less = record {
  exponent = suc is.exponent;
  is_power = omega arith;
  not_below = omega arith;
  least = λ other few. elim (cases_lt is.exponent other) [
    | inl lower ↦
        let grows : 2 ^ suc is.exponent ≤ 2 ^ other = pow_mono (omega (arith, lower)) in omega arith
    | inr higher ↦
        let falls : 2 ^ other ≤ 2 ^ is.exponent = pow_mono higher in absurd (omega arith)
  ];
  small = omega arith;
}

power_kept : (m power : ℕ) → IsPowerFor m power → suc m ≤ power → IsPowerFor (suc m) power
power_kept m power is enough = record {
  exponent = is.exponent;
  is_power = is.is_power;
  not_below = enough;
  least = λ other few. is.least other (omega (arith, few));
  small = omega arith;
}

power_for : (k : ℕ) → (power : ℕ) × IsPowerFor (suc k) power
power_for zero = (1, power_for_one)
power_for (suc k) = let before = power_for k in elim (cases_lt before.0 (suc (suc k))) [
  | inl less ↦ (2 * before.0, power_doubled (suc k) before.0 before.1 less)
  | inr enough ↦ (before.0, power_kept (suc k) before.0 before.1 enough)
]

-- the least power of two that is at least both of two numbers, the second of which isn't 0, is below the
-- double of any number that is not below either of them
record HasLeastPower (first second most : ℕ) : Type 0 where
  power : ℕ
  is : IsLeastPower power first second
  small : power < 2 * most

has_least_power : (first second most : ℕ) → 0 < second → first ≤ most → second ≤ most
    → HasLeastPower first second most
has_least_power first second most some one other =
    let least = power_for (max first second - 1) in
    let e : suc (max first second - 1) ≡ max first second = omega arith in
    let at = subst (λ m. IsPowerFor m least.0) e least.1 in
    record {
      power = least.0;
      is = record {
        exponent = at.exponent;
        is_power = at.is_power;
        not_below_first = omega arith;
        not_below_second = omega arith;
        least = λ p at_first at_second. at.least p (omega (arith, at_first, at_second));
      };
      small = omega arith;
    }

-- a pair that the limits reach: where a configuration comes again, and the least power of two for it
record IsReached (table : Table) (bounds : Bounds) : Type 0 where
  at : ℕ
  period : ℕ
  power : ℕ
  positive : 0 < period
  same : Same table at (at + period)
  is_power : IsLeastPower power at period
  inside : Inside table bounds (power + period)
  early : power + period ≤ 3 * configurations_in table bounds.cells

module _ (table : Table) (bounds : Bounds) (machine : IsMachine table) (many : HasStepsForCells table bounds)
    (inside : Inside table bounds bounds.steps) (running : IsRunning table bounds.steps) where
  reached : IsReached table bounds
  reached =
      let few = configurations_in table bounds.cells in
      let pair = few_cells_repeat_before table bounds.cells bounds.steps machine (omega (arith, many)) running
      inside.within_cells in
      let period = pair.second - pair.first in
      let on : pair.second ≡ pair.first + period = omega arith in
      let power = has_least_power pair.first period few (omega arith) (omega arith) (omega arith) in
      record {
        at = pair.first;
        period = period;
        power = power.power;
        positive = omega arith;
        same = subst (λ n. Same table pair.first n) on
            (record { here = pair.here; at_first = pair.at_first; at_second = pair.at_second });
        is_power = power.is;
        inside = earlier_is_inside table bounds (power.power + period) bounds.steps (omega arith) inside;
        early = omega arith;
      }

-- what is found by a step is found by a later one
found_later : (one other : ℕ) (found : Option Verdict) → one ≤ other → IsFoundBy one found
    → IsFoundBy other found
found_later one other (Some (Cycler first second)) few is = omega (arith, few, is)
found_later one other (Some (Translated side first second extent)) few is = omega (arith, few, is)
found_later one other found few is = is

pub finds_in_few_cells : (table : Table) (bounds : Bounds) → IsMachine table → (found : Option Verdict)
    → FindsCycle table bounds found → FindsInFewCells table bounds found
finds_in_few_cells table bounds machine found finds many inside running =
    let reach = reached table bounds machine many inside running in
    let sure = finds_repeats table bounds found finds reach.at reach.period reach.power reach.positive
    reach.same reach.is_power reach.inside in
    found_later (reach.power + reach.period) (3 * configurations_in table bounds.cells) found reach.early sure

pub few_cells_are_decided : FewCellsAreDecided
few_cells_are_decided table bounds plan (Undecided Steps) machine is on many =
    let outcome = is.0 in
    let goes = runs_on table bounds outcome.0 outcome.1 in
    let reach = reached table bounds machine many goes.inside goes.running in
    absurd (passes_cycles table bounds plan (Undecided Steps) is (omega arith) on reach.power
    (reach.power + reach.period)
    (repeats_are_found table bounds reach.at reach.period reach.power reach.positive reach.same reach.is_power
    reach.inside))
few_cells_are_decided table bounds plan verdict machine is on many = λ e. cc
