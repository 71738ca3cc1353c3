-- What one single-pass run means for the verdict, and what it costs.
use Rattle.std.proofs.Common.{◌≡◌, ℕ, ◌+◌, ◌<◌, ◌≤◌, inl, inr, Some, None, IsTrue, true, false, Option, ℤ}
use Rattle.std.proofs.Common.{ap, sym}
use Rattle.std.proofs.Common.{◌∙◌, arith}
use Rattle.std.proofs.lemmas.Bool.{cases_lt}
use Rattle.bb_machine.specs.Limits.{Bounds}
use Rattle.bb_machine.specs.Machine.{Table}
use Rattle.bb_machine.specs.declared.plan.Plan.{Plan}
use Rattle.bb_sim.specs.declared.meter.Meter.{Meter}
use Rattle.bb_sim.specs.declared.simulation.Outcome.{Outcome}
use Rattle.bb_sim.specs.declared.simulation.Outcome.TheVariants as outcomes
use Rattle.bb_sim.specs.Meter.{CountsRun, CountsTo}
use Rattle.bb_sim.specs.Outcome.{HaltsInside, HaltsNowhere, IsOutcome}
use Rattle.bb_sim.specs.Span.{Inside}
use Rattle.bb_sim.proofs.Facts.{halts_last}
use Rattle.bb_cert.specs.declared.verdict.Side.{Side}
use Rattle.bb_cert.specs.declared.verdict.Verdict.{Verdict}
use Rattle.bb_cert.specs.declared.verdict.Verdict.TheVariants.{Cycler, Translated}
use Rattle.bb_cert.proofs.Facts.{agreeing_records_never_halt, agreeing_records_never_repeat}
use Rattle.bb_cert.proofs.Facts.{repeats_never_halt}
use Rattle.bb_decide.specs.declared.search_result.SearchResult.{SearchResult}
use Rattle.bb_decide.specs.declared.search_result.SearchResult.TheVariants.{Found, Ran}
use Rattle.bb_decide.specs.Cycle.{CountsSearch, FindsCycle, HasNoCycle}
use Rattle.bb_decide.specs.Fingerprint.{AgreesByChance, most_steps, named_step}
use Rattle.bb_decide.specs.Translation.{FindsTranslation, HasNoTranslation, IsFirstTranslation}
use Rattle.bb_decide.specs.inside.SearchResult.{CostsAlone, ResultCosts, EndsBoth, EndsSearches, RanAs, MakesSinglePass}
use Rattle.bb_decide.specs.SinglePassCost.{IsStoppedAt}
use Rattle.bb_decide.specs.inside.SearchResult.{found_of, is_settled, verdict_of_outcome}
use Rattle.bb_decide.specs.Backward.{CountsTree, FindsTree}
use Rattle.bb_decide.specs.Verdict.{IsVerdict}
use Rattle.bb_decide.specs.Cost.{CountsWalk, MakesWalk}
use Rattle.bb_decide.specs.inside.Search.{SearchesFind}
use Rattle.bb_decide.proofs.Translations.{pair_agrees}
use Rattle.bb_decide.proofs.Costs.{counts_walk, no_walk_counted, not_reached, verdict_of_deciders}
use Rattle.bb_decide.proofs.Costs.{walk_where_nowhere}

module _ (table : Table) (bounds : Bounds) where
  -- where records agree, no configuration comes again
  pub no_cycle_beside : (side : Side) (a b : ℕ) → IsFirstTranslation table bounds side a b
      → HasNoCycle table bounds
  no_cycle_beside side a b first c d cycle =
      agreeing_records_never_repeat table side a b c d (pair_agrees table side a b first.translation.pair)
      cycle.partner.below cycle.same

  -- a halt inside, so no record agrees
  no_translation_beside : (n : ℕ) → HaltsInside table bounds n → HasNoTranslation table bounds
  no_translation_beside n halts side a b translation =
      (agreeing_records_never_halt table side a b (pair_agrees table side a b translation.pair)).never n
      halts.halts

  -- no step inside is later than the step that an outcome names
  named_by_outcome : (outcome : Outcome) → IsOutcome table bounds outcome → (n : ℕ) → Inside table bounds n
      → (n ≤ named_step bounds (verdict_of_outcome outcome))
      × (n ≤ most_steps bounds (verdict_of_outcome outcome))
  named_by_outcome (outcomes.Halt steps score) is n inside =
      let no_later = (halts_last table bounds steps is.0.inside is.0.halts).greatest n inside in
      (no_later, no_later)
  named_by_outcome outcomes.NoSteps is n inside = (inside.within_steps, inside.within_steps)
  named_by_outcome outcomes.NoCells is n inside = (inside.within_steps, inside.within_steps)

module _ (table : Table) (bounds : Bounds) (key : ℤ → ℕ) (old new : Meter) (zero : old.steps ≡ 0) where
  pub run_costs : CountsRun table bounds old new → (outcome : Outcome) → IsOutcome table bounds outcome
      → CostsAlone bounds new.steps (Ran outcome)
  run_costs counts outcome is =
      let steps : new.steps ≡ old.steps + counts.last = ap (λ (m : Meter). m.steps) counts.counts in
      omega (arith, (named_by_outcome table bounds outcome is counts.last counts.is_last.inside).1)

  -- one search alone
  pub cycle_costs : (search_result : SearchResult) → RanAs table bounds search_result
      → CountsSearch table bounds old new (found_of search_result) → CostsAlone bounds new.steps search_result
  cycle_costs (Ran outcome) ran counts = run_costs counts outcome ran
  cycle_costs (Found (Cycler first second)) ran counts =
      let steps : new.steps ≡ old.steps + second = ap (λ (m : Meter). m.steps) counts in
      omega (arith, steps, zero)
  cycle_costs (Found (Translated side first second extent)) ran counts =
      let steps : new.steps ≡ old.steps + second = ap (λ (m : Meter). m.steps) counts in
      omega (arith, steps, zero)
  cycle_costs (Found verdict) ran counts = absurd counts

  -- the single-pass run
  pub single_pass_ends : (search_result : SearchResult) → MakesSinglePass table bounds key old new (Some search_result)
      → EndsBoth table bounds search_result
  single_pass_ends (Ran outcome) single_pass = (single_pass.2, single_pass.3, single_pass.0)
  single_pass_ends (Found (Translated side first second extent)) single_pass =
      (no_cycle_beside table bounds side first second single_pass.0.0, single_pass.0.0, single_pass.0.1)
  single_pass_ends (Found (Cycler first second)) single_pass = single_pass.0
  single_pass_ends (Found verdict) single_pass = absurd single_pass.0

  pub single_pass_costs : (search_result : SearchResult) → MakesSinglePass table bounds key old new (Some search_result)
      → ResultCosts key table bounds new.steps search_result
  single_pass_costs (Ran outcome) single_pass none = run_costs single_pass.1 outcome single_pass.2
  single_pass_costs (Found (Cycler first second)) single_pass none =
      cycle_costs (Found (Cycler first second)) tt single_pass.1
  single_pass_costs (Found (Translated side first second extent)) single_pass none =
      cycle_costs (Found (Translated side first second extent)) tt single_pass.1
  single_pass_costs (Found verdict) single_pass none = absurd single_pass.0

-- where the single-pass run was stopped
module _ {table : Table} {bounds : Bounds} {key : ℤ → ℕ} {n : ℕ} (here : IsStoppedAt key table bounds n) where
  by_chance : HasNoCycle table bounds → (latest : ℕ) → n ≤ latest → AgreesByChance key table bounds latest
  by_chance none latest late = record {
    first = here.partner;
    second = n;
    alike = here.alike;
    inside = here.inside;
    no_later = late;
    wide = here.wide;
    differ = λ same. none here.partner n (record {
      partner = here.alike.partner;
      inside = here.inside;
      same = record {
        here = here.alike.one;
        at_first = here.alike.at_partner;
        at_second = here.alike.at_step ∙ ap Some (sym same);
      };
    });
  }

  not_earlier : (b : ℕ) → (b < n → ⊥) → n ≤ b
  not_earlier b never = elim (cases_lt b n) [ inl less ↦ absurd (never less) | inr late ↦ late ]

  -- the step that an outcome names is no earlier
  outcome_by_chance : HasNoCycle table bounds → (outcome : Outcome) → IsOutcome table bounds outcome
      → AgreesByChance key table bounds (named_step bounds (verdict_of_outcome outcome))
  outcome_by_chance none outcome is = by_chance none (named_step bounds (verdict_of_outcome outcome))
      (named_by_outcome table bounds outcome is n here.inside).0

  -- what the exact search for cycles finds costs no more than it may
  pub exact_costs : (old mid new : Meter) → old.steps ≡ 0 → CountsTo table n old mid → (search_result : SearchResult)
      → FindsCycle table bounds (found_of search_result) → RanAs table bounds search_result
      → CountsSearch table bounds mid new (found_of search_result) → ResultCosts key table bounds new.steps search_result
  exact_costs old mid new zero counts (Found (Cycler first second)) found ran searched none =
      let one : mid.steps ≡ old.steps + n = ap (λ (m : Meter). m.steps) counts in
      let two : new.steps ≡ mid.steps + second = ap (λ (m : Meter). m.steps) searched in
      let late = not_earlier second (λ less. here.no_cycle first second less found.cycle) in
      omega (arith, late)
  exact_costs old mid new zero counts (Ran outcome) found ran searched none =
      absurd (none (outcome_by_chance found outcome ran))
  exact_costs old mid new zero counts (Found verdict) found ran searched none = absurd found

  -- where that finds none, the fingerprints agree by chance
  pub chance_costs : HasNoCycle table bounds → (steps : ℕ) (search_result : SearchResult)
      → FindsTranslation table bounds (found_of search_result) → RanAs table bounds search_result
      → ResultCosts key table bounds steps search_result
  chance_costs nowhere steps (Found (Translated side first second extent)) found ran none =
      absurd (none (by_chance nowhere second
      (not_earlier second (λ less. here.no_record side first second less found.0.translation))))
  chance_costs nowhere steps (Ran outcome) found ran none =
      absurd (none (outcome_by_chance nowhere outcome ran))
  chance_costs nowhere steps (Found verdict) found ran none = absurd found

module _ (table : Table) (bounds : Bounds) where
  -- the exact search ended with a pair or a halt
  pub settled_ends : (search_result : SearchResult) → is_settled search_result ≡ true → FindsCycle table bounds (found_of search_result)
      → RanAs table bounds search_result → EndsBoth table bounds search_result
  settled_ends (Found (Cycler first second)) settled found ran = found
  settled_ends (Ran (outcomes.Halt n score)) settled found ran =
      (ran, found, no_translation_beside table bounds n ran.0)
  settled_ends (Ran outcome) settled found ran = absurd cc
  settled_ends (Found verdict) settled found ran = absurd found

  -- else it found none, and then the one for records
  pub both_end : HasNoCycle table bounds → (search_result : SearchResult) → FindsTranslation table bounds (found_of search_result)
      → RanAs table bounds search_result → EndsBoth table bounds search_result
  both_end nowhere (Found (Translated side first second extent)) found ran = (nowhere, found.0, found.1)
  both_end nowhere (Ran outcome) found ran = (ran, nowhere, found)
  both_end nowhere (Found verdict) found ran = absurd found

  -- by a plan
  pub both_on : (plan : Plan) → IsTrue plan.cyclers → IsTrue plan.translated → (search_result : SearchResult)
      → EndsBoth table bounds search_result → EndsSearches table bounds plan search_result
  both_on plan cyclers translated (Found (Cycler first second)) ends = (cyclers, ends)
  both_on plan cyclers translated (Found (Translated side first second extent)) ends =
      (λ on. ends.0, translated, ends.1, ends.2)
  both_on plan cyclers translated (Ran outcome) ends = (ends.0, (λ on. ends.1, λ on. ends.2))
  both_on plan cyclers translated (Found verdict) ends = absurd ends

  pub cyclers_on : (plan : Plan) → IsTrue plan.cyclers → (IsTrue plan.translated → ⊥) → (search_result : SearchResult)
      → FindsCycle table bounds (found_of search_result) → RanAs table bounds search_result
      → EndsSearches table bounds plan search_result
  cyclers_on plan cyclers off (Found (Cycler first second)) found ran = (cyclers, found)
  cyclers_on plan cyclers off (Ran outcome) found ran = (ran, (λ on. found, λ on. absurd (off on)))
  cyclers_on plan cyclers off (Found verdict) found ran = absurd found

  pub translated_on : (plan : Plan) → (IsTrue plan.cyclers → ⊥) → IsTrue plan.translated → (search_result : SearchResult)
      → FindsTranslation table bounds (found_of search_result) → RanAs table bounds search_result
      → EndsSearches table bounds plan search_result
  translated_on plan off translated (Found (Translated side first second extent)) found ran =
      (λ on. absurd (off on), translated, found.0, found.1)
  translated_on plan off translated (Ran outcome) found ran = (ran, (λ on. absurd (off on), λ on. found))
  translated_on plan off translated (Found verdict) found ran = absurd found

module _ (table : Table) (bounds : Bounds) (plan : Plan) where
  -- what a search finds is the verdict, since such a machine never halts
  pub found_is_verdict : (verdict : Verdict) → SearchesFind table bounds plan (Some verdict)
      → IsVerdict table bounds plan verdict
  found_is_verdict (Cycler first second) found =
      let cycle = found.1.cycle in
      verdict_of_deciders table bounds plan (Cycler first second)
      (λ n halts. (repeats_never_halt table first second cycle.partner.below cycle.same).never n halts.halts)
      found
  found_is_verdict (Translated side first second extent) found =
      verdict_of_deciders table bounds plan (Translated side first second extent) (λ n halts.
      (agreeing_records_never_halt table side first second
      (pair_agrees table side first second found.2.translation.pair)).never n halts.halts) found
  found_is_verdict verdict found = absurd found

  -- no walk is made then, nor where the machine halts
  pub no_walk_beside : (verdict : Verdict) (meter : Meter) → SearchesFind table bounds plan (Some verdict)
      → meter.most_levels ≡ 0 → meter.nodes ≡ 0 → CountsWalk (MakesWalk table bounds plan) table bounds meter
  no_walk_beside verdict meter found levels nodes =
      no_walk_counted (MakesWalk table bounds plan) table bounds meter levels nodes
      (λ made. not_reached table bounds plan verdict found made.1 made.2)

  pub no_walk_at_halt : (n : ℕ) (meter : Meter) → HaltsInside table bounds n → meter.most_levels ≡ 0
      → meter.nodes ≡ 0 → CountsWalk (MakesWalk table bounds plan) table bounds meter
  no_walk_at_halt n meter halts levels nodes =
      no_walk_counted (MakesWalk table bounds plan) table bounds meter levels nodes (λ made. made.0 n halts)

  -- where nothing was found and the machine doesn't halt, it is made
  pub walk_counted : (found : Option Verdict) (old new : Meter) → HaltsNowhere table bounds
      → SearchesFind table bounds plan None → IsTrue plan.backward → FindsTree table bounds found
      → CountsTree bounds old new found → CountsWalk (MakesWalk table bounds plan) table bounds new
  walk_counted found old new nowhere passes on finds counts =
      walk_where_nowhere table bounds plan nowhere
      (counts_walk table bounds plan passes found old new on finds counts)

-- where the limits end a run, the machine halts nowhere inside
pub halts_nowhere : (table : Table) (bounds : Bounds) (outcome : Outcome) → IsOutcome table bounds outcome
    → is_settled (Ran outcome) ≡ false → HaltsNowhere table bounds
halts_nowhere table bounds outcomes.NoSteps is open_yet = is.0
halts_nowhere table bounds outcomes.NoCells is open_yet = is.0
halts_nowhere table bounds (outcomes.Halt n score) is open_yet = absurd cc
