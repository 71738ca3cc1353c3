-- What two tries cost together.
use Rattle.std.proofs.Common.{◌≡◌, ℕ, ◌+◌, ◌≤◌, max, inl, inr, ℤ}
use Rattle.std.proofs.Common.{◌<◌, refl, rules, ap, subst, arith}
use Rattle.bb_machine.specs.Limits.{Bounds}
use Rattle.bb_machine.specs.Machine.{Table}
use Rattle.bb_machine.specs.declared.plan.Plan.{Plan}
use Rattle.bb_sim.specs.declared.meter.Meter.{Meter}
use Rattle.bb_cert.specs.declared.verdict.Verdict.{Verdict}
use Rattle.bb_cert.specs.declared.verdict.Verdict.TheVariants.{Backward, Undecided}
use Rattle.bb_decide.specs.Fingerprint.{CostsWhatItNames, SearchesCollide, most_steps, named_step}
use Rattle.bb_decide.specs.FingerprintKeys.{spread}
use Rattle.bb_decide.specs.SinglePassCost.{CountsRuns}
use Rattle.bb_decide.specs.Sure.{IsFoundByRun, NoneIsSmaller}
use Rattle.bb_decide.specs.Verdict.{IsVerdict}
use Rattle.bb_decide.proofs.Facts.{inside_upper, verdict_is_unique}
use Rattle.bb_c.specs.Cost.{CostsInTwoTries, CountsTries, FindsNothing, few_bounds, first_steps}
use Rattle.bb_c.specs.Cost.{AreRunSteps, without_trees}

-- what agrees up to a step within limits agrees up to a later one within larger limits
later : {key : ℤ → ℕ} {table : Table} {lower upper : Bounds} (plan : Plan) {n : ℕ} (m : ℕ) → n ≤ m
    → NoneIsSmaller lower upper → SearchesCollide key table lower plan n
    → SearchesCollide key table upper plan m
later plan m more bounds (cyclers, translated, chance) = (
  cyclers,
  translated,
  record {
    first = chance.first;
    second = chance.second;
    alike = chance.alike;
    inside = inside_upper _ _ _ bounds _ chance.inside;
    no_later = let early = chance.no_later in omega (arith, early, more);
    wide = chance.wide;
    differ = chance.differ;
  },
)

same_bounds : (bounds : Bounds) → NoneIsSmaller bounds bounds
same_bounds bounds = search rules

-- one try costs no more than two may
pub costs_one_try : (table : Table) (bounds : Bounds) (plan : Plan) (steps : ℕ) (verdict : Verdict)
    → CostsWhatItNames spread table bounds plan steps verdict → CostsInTwoTries table bounds plan steps verdict
costs_one_try table bounds plan steps verdict costs none =
    inl (costs (λ chance. none (later plan (max (named_step bounds verdict) (first_steps bounds)) (omega arith)
    (same_bounds bounds) chance)))

module _ (table : Table) (lower upper : Bounds) (plan : Plan) (smaller : NoneIsSmaller lower upper) where
  named_alike : (verdict : Verdict) → IsFoundByRun verdict
      → (named_step lower verdict ≡ named_step upper verdict)
      × (most_steps lower verdict ≡ most_steps upper verdict)
  named_alike (Backward levels nodes) found = absurd found
  named_alike (Undecided why) found = absurd found
  named_alike verdict found = (refl, refl)

  -- what a run finds names the same step within all limits
  pub costs_first_try : (steps : ℕ) (verdict : Verdict) → IsFoundByRun verdict
      → CostsWhatItNames spread table lower (without_trees plan) steps verdict
      → CostsInTwoTries table upper plan steps verdict
  costs_first_try steps verdict found costs none =
      let same = named_alike verdict found in
      inl (rw (← same.1) (costs (λ chance. none (later plan (max (named_step upper verdict) (first_steps upper))
      (omega (arith, same.0)) smaller chance))))

  -- a try in which a run finds nothing costs no more than its limit
  costs_limit : (steps : ℕ) (verdict : Verdict) → (IsFoundByRun verdict → ⊥)
      → CostsWhatItNames spread table lower (without_trees plan) steps verdict
      → (SearchesCollide spread table lower plan lower.steps → ⊥)
      → steps ≤ lower.steps
  costs_limit steps (Backward levels nodes) apart costs none = costs none
  costs_limit steps (Undecided why) apart costs none = costs none
  costs_limit steps verdict apart costs none = absurd (apart tt)

  -- no other verdict within its limits is one that a run finds
  finds_nothing : (first : Verdict) → lower ≡ few_bounds upper
      → IsVerdict table lower (without_trees plan) first → (IsFoundByRun first → ⊥)
      → FindsNothing table (few_bounds upper) (without_trees plan)
  finds_nothing first few is nothing =
      subst (λ bounds. FindsNothing table bounds (without_trees plan)) few
      (λ other other_is found. nothing (subst IsFoundByRun
      (verdict_is_unique table lower (without_trees plan) other first other_is is) found))

  pub costs_both_tries : (tried steps : ℕ) (first verdict : Verdict) → lower ≡ few_bounds upper
      → IsVerdict table lower (without_trees plan) first → (IsFoundByRun first → ⊥)
      → CostsWhatItNames spread table lower (without_trees plan) tried first
      → CostsWhatItNames spread table upper plan steps verdict
      → CostsInTwoTries table upper plan (steps + tried) verdict
  costs_both_tries tried steps first verdict few is nothing costs_first costs none =
      let latest = max (named_step upper verdict) (first_steps upper) in
      let small : lower.steps ≡ first_steps upper = ap (λ (b : Bounds). b.steps) few in
      let one = costs_limit tried first nothing costs_first
      (λ chance. none (later plan latest (omega (arith, small)) smaller chance)) in
      let other = costs (λ chance. none (later plan latest (omega arith) (same_bounds upper) chance)) in
      inr (finds_nothing first few is nothing, omega (arith, one, other, small))

-- ---- how many steps were counted

run_steps : {table : Table} {bounds : Bounds} {plan : Plan} {meter : Meter}
    → CountsRuns spread table bounds plan meter
    → AreRunSteps table bounds plan meter.steps
run_steps counts = record { latest = counts.latest; runs = counts.runs }

-- by one try, where the cells are few
pub counts_one_try : {table : Table} {bounds : Bounds} {plan : Plan} {meter : Meter} → bounds.cells ≤ 1024
    → CountsRuns spread table bounds plan meter → CountsTries table bounds plan meter.steps
counts_one_try few counts = inl (few, run_steps counts)

module _ (table : Table) (lower upper : Bounds) (plan : Plan) (many : 1024 < upper.cells)
    (few : lower ≡ few_bounds upper) where
  -- by the first of two
  pub counts_first_try : (verdict : Verdict) (meter : Meter)
      → IsVerdict table lower (without_trees plan) verdict
      → IsFoundByRun verdict → CountsRuns spread table lower (without_trees plan) meter
      → CountsTries table upper plan meter.steps
  counts_first_try verdict meter is found counts = inr (inl (
    many,
    record { verdict = verdict; is_verdict = rw few at is; by_run = found },
    rw few at (run_steps counts),
  ))

  -- by both
  pub counts_both_tries : (smaller : NoneIsSmaller lower upper) (first : Verdict) (tried steps : Meter)
      → IsVerdict table lower (without_trees plan) first → (IsFoundByRun first → ⊥)
      → CountsRuns spread table lower (without_trees plan) tried → CountsRuns spread table upper plan steps
      → CountsTries table upper plan (steps.steps + tried.steps)
  counts_both_tries smaller first tried steps is nothing counts_first counts = inr (inr (
    many,
    record {
      nothing = finds_nothing table lower upper plan smaller first few is nothing;
      tried = tried.steps;
      is_tried = rw few at (run_steps counts_first);
      then_made = steps.steps;
      is_then_made = run_steps counts;
      sum = omega arith;
    },
  ))
