-- Why a claim of a cycler that the checker confirms is found by the search for cycles.
use Rattle.std.proofs.Common.{◌≡◌, ℕ, zero, suc, ◌+◌, ◌-◌, ◌*◌, ◌^◌, ◌<◌, ◌≤◌, max, inl, inr, refl, subst}
use Rattle.std.proofs.Common.{arith}
use Rattle.std.proofs.lemmas.Bool.{cases_lt}
use Rattle.bb_machine.specs.Limits.{Bounds}
use Rattle.bb_machine.specs.Machine.{Table}
use Rattle.bb_sim.specs.Run.{Never}
use Rattle.bb_sim.specs.Span.{span}
use Rattle.bb_sim.proofs.Facts.{span_grows}
use Rattle.bb_cert.specs.declared.checker.answer.Answer.TheVariants.{Ok}
use Rattle.bb_cert.specs.declared.verdict.Verdict.{Verdict}
use Rattle.bb_cert.specs.declared.verdict.Verdict.TheVariants.{Halt, Cycler, Undecided}
use Rattle.bb_cert.specs.checker.Answer.{Applies, IsAnswer, Rule, answer_by, claim_holds}
use Rattle.bb_cert.specs.claims.Claim.{Claim}
use Rattle.bb_cert.specs.claims.Repeat.{Same}
use Rattle.bb_cert.proofs.Facts.{repeats_keep_distance, repeats_never_halt}
use Rattle.bb_decide.specs.Cycle.{IsCycle}
use Rattle.bb_decide.proofs.Facts.{passes_all}
use Rattle.bb_decide.specs.Verdict.{IsVerdict}
use Rattle.laws_of_verdicts.specs.Found.{CyclersAreFound, IsCyclerBy}

-- what is answered ok holds
claim_of_ok : (table : Table) (bounds : Bounds) (verdict : Verdict) → IsAnswer table bounds verdict Ok
    → Claim table verdict
claim_of_ok table bounds verdict is = by_rule is.rule is.is is.applies where
  by_rule : (rule : Rule) → Ok ≡ answer_by rule → Applies table bounds verdict rule → Claim table verdict
  by_rule claim_holds e applies = applies
  by_rule rule e applies = absurd cc

-- a power of two that is not below a number, but below its double
record IsPowerFor (m : ℕ) : Type 0 where
  power : ℕ
  exponent : ℕ
  is_power : power ≡ 2 ^ exponent
  not_below : m ≤ power
  small : power < 2 * m

power_for : (k : ℕ) → IsPowerFor (k + 1)
power_for zero = record {
  power = 1;
  exponent = 0;
  is_power = refl;
  not_below = omega arith;
  small = omega arith;
}
power_for (suc k) =
    let before = power_for k in
    let small = before.small in
    elim (cases_lt before.power (k + 2)) [
      | inl less ↦ record {
        power = 2 * before.power;
        exponent = suc before.exponent;
        is_power = let e = before.is_power in omega (arith, e);
        not_below = omega (arith, before.not_below);
        small = omega (arith, less);
      }
      | inr enough ↦ record {
        power = before.power;
        exponent = before.exponent;
        is_power = before.is_power;
        not_below = omega (arith, enough);
        small = omega (arith, small);
      }
    ]

-- a cycle that the limits reach
record IsReached (table : Table) (bounds : Bounds) (latest : ℕ) : Type 0 where
  first : ℕ
  second : ℕ
  cycle : IsCycle table bounds first second
  early : second ≤ latest

reached : (table : Table) (bounds : Bounds) (a b : ℕ) → a < b → Same table a b → 3 * b ≤ bounds.steps
    → span table (3 * b) ≤ bounds.cells → IsReached table bounds (3 * b)
reached table bounds a b order same steps cells =
    let p = b - a in
    let greater = max a p in
    let least = power_for (greater - 1) in
    let power = least.power in
    let above : greater ≤ power = let h = least.not_below in omega (arith, h, order) in
    let below : power < 2 * greater = let h = least.small in omega (arith, h, order) in
    let most : greater ≤ b = omega (arith, order) in
    let on : b ≡ a + p = omega (arith, order) in
    let far : a + (power - a) ≡ power = omega (arith, above) in
    let later : Same table power (power + p) = subst (λ n. Same table n (n + p)) far
    (repeats_keep_distance table a p (power - a) (omega (arith, order)) (subst (Same table a) on same)) in
    let few : power + p ≤ 3 * b = omega (arith, below, most, order) in
    record {
      first = power;
      second = power + p;
      cycle = record {
        partner = record {
          exponent = least.exponent;
          is_power = least.is_power;
          below = omega (arith, order);
          greatest = omega (arith, above);
        };
        inside = record {
          here = later.here;
          exists = later.at_second;
          within_steps = omega (arith, few, steps);
          within_cells = let grows = span_grows table (power + p) (3 * b) few in omega (arith, grows, cells);
        };
        same = later;
      };
      early = few;
    }

pub cyclers_are_found : CyclersAreFound
cyclers_are_found table checked bounds plan a b verdict answer on steps cells is =
    let claim = claim_of_ok table checked (Cycler a b) answer in
    let reach = reached table bounds a b claim.0 claim.1 steps cells in
    by_verdict (repeats_never_halt table a b claim.0 claim.1) reach verdict is where
      by_verdict : Never table → IsReached table bounds (3 * b) → (verdict : Verdict)
          → IsVerdict table bounds plan verdict → IsCyclerBy (3 * b) verdict
      by_verdict never reach (Halt n ones) is = absurd (never.never n is.0.halts)
      by_verdict never reach (Cycler first second) is =
          omega (arith, reach.early, is.2.first reach.first reach.second reach.cycle)
      by_verdict never reach (Undecided why) is =
          absurd ((passes_all plan why is).0 on reach.first reach.second reach.cycle)
      by_verdict never reach verdict is = absurd (is.1 on reach.first reach.second reach.cycle)
