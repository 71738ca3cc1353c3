-- What the runs count that one decision makes, and that no machine has two such counts.
use Rattle.std.proofs.Common.{◌≡◌, ℕ, ◌+◌, max, Bool, true, false, inl, inr, Option, Some}
use Rattle.std.proofs.Common.{ℤ, refl, ap, ◌∙◌, arith}
use Rattle.std.proofs.lemmas.Bool.{cases_lt}
use Rattle.bb_machine.specs.Limits.{Bounds}
use Rattle.bb_machine.specs.Machine.{Table}
use Rattle.bb_machine.specs.declared.plan.Plan.{Plan}
use Rattle.bb_tape.specs.Content.{Content}
use Rattle.bb_sim.specs.declared.meter.Meter.{Meter}
use Rattle.bb_sim.specs.declared.simulation.Outcome.TheVariants as outcomes
use Rattle.bb_sim.specs.Meter.{CountsRun, CountsTo, zero_meter}
use Rattle.bb_sim.specs.Outcome.{HaltsNowhere}
use Rattle.bb_sim.specs.Span.{span}
use Rattle.bb_sim.proofs.Facts.{last_step_is_unique, span_grows}
use Rattle.bb_cert.specs.declared.verdict.Verdict.{Verdict}
use Rattle.bb_cert.specs.declared.verdict.Verdict.TheVariants.{Cycler, Translated}
use Rattle.bb_decide.specs.Backward.{CountsTree}
use Rattle.bb_decide.specs.Cost.{CycleSteps, StepsIfMade, TranslationSteps}
use Rattle.bb_decide.specs.Cycle.{CountsSearch, FindsCycle, HasNoCycle}
use Rattle.bb_decide.specs.Translation.{FindsTranslation}
use Rattle.bb_decide.specs.SinglePassCost.{BreaksOff, CountsRefused, CountsRuns, IsStoppedAt, MakesRuns}
use Rattle.bb_decide.specs.SinglePassCost.{SinglePassSteps}
use Rattle.bb_decide.specs.declared.search_result.SearchResult.{SearchResult}
use Rattle.bb_decide.specs.declared.search_result.SearchResult.TheVariants.{Found, Ran}
use Rattle.bb_decide.specs.inside.SearchResult.{AddsRuns, RanAs, MakesSinglePass, found_of, is_settled}
use Rattle.bb_decide.specs.Laws.{RunsAreUnique}
use Rattle.bb_decide.proofs.Costs.{makes_cycles, makes_translations, walk_keeps}
use Rattle.bb_decide.proofs.SinglePassVerdicts.{halts_nowhere, no_cycle_beside}
use Rattle.bb_decide.proofs.Verdicts.{cycle_steps_are_one, steps_if_made_are_one, translation_steps_are_one}

-- ---- what runs add

-- the later step has the wider span
pub widest : (table : Table) (n m : ℕ) → max (span table n) (span table m) ≡ span table (max n m)
widest table n m = elim (cases_lt n m) [
  | inl less ↦
      let is : max n m ≡ m = omega (arith, less) in
      rw is (omega (arith, span_grows table n m (omega (arith, less))))
  | inr more ↦
      let is : max n m ≡ n = omega (arith, more) in rw is (omega (arith, span_grows table m n more))
]

-- ---- what the searches that are on make

module _ (key : ℤ → ℕ) (table : Table) (bounds : Bounds) {old new : Meter} where
  adds_once : {cyclers translated : Bool} (n : ℕ) → CountsTo table n old new
      → MakesRuns key table bounds cyclers translated n n
      → AddsRuns key table bounds cyclers translated old new
  adds_once n counts runs = record {
    count = n;
    latest = n;
    runs = runs;
    steps = ap (λ (m : Meter). m.steps) counts;
    most_cells = ap (λ (m : Meter). m.most_cells) counts;
  }

  pub no_search_adds : CountsRun table bounds old new → AddsRuns key table bounds false false old new
  no_search_adds counts = adds_once counts.last counts.counts (counts.is_last, refl)

  pub cycles_add : (search_result : SearchResult) → FindsCycle table bounds (found_of search_result)
      → CountsSearch table bounds old new (found_of search_result) → AddsRuns key table bounds true false old new
  cycles_add search_result finds counts =
      let made = makes_cycles table bounds (found_of search_result) finds counts in
      adds_once made.steps made.counts (made.is_steps, refl)

  pub translations_add : (search_result : SearchResult) → FindsTranslation table bounds (found_of search_result)
      → CountsSearch table bounds old new (found_of search_result) → AddsRuns key table bounds false true old new
  translations_add search_result finds counts =
      let made = makes_translations table bounds (found_of search_result) finds counts in
      adds_once made.steps made.counts (made.is_steps, refl)

  -- the single-pass run that isn't stopped
  pub single_pass_adds : (search_result : SearchResult) → MakesSinglePass table bounds key old new (Some search_result)
      → AddsRuns key table bounds true true old new
  single_pass_adds (Ran outcome) single_pass =
      adds_once single_pass.1.last single_pass.1.counts (inl (
        single_pass.4,
        inr (λ s repeats. single_pass.3 repeats.partner s repeats.first.cycle, inr (single_pass.0, single_pass.1.is_last)),
        refl,
      ))
  single_pass_adds (Found (Cycler first second)) single_pass =
      adds_once second single_pass.1 (inl (
        single_pass.2,
        inl (record { partner = first; first = single_pass.0; fits = single_pass.3 }),
        refl,
      ))
  single_pass_adds (Found (Translated side first second extent)) single_pass =
      adds_once second single_pass.1 (inl (
        single_pass.2,
        inr (
          λ s repeats.
              no_cycle_beside table bounds side first second single_pass.0.0 repeats.partner s repeats.first.cycle,
          inl (side, first, single_pass.0.0),
        ),
        refl,
      ))
  single_pass_adds (Found verdict) single_pass = absurd single_pass.0

-- a search for cycles that settles nothing has found none, and the machine doesn't halt
pub both_open : {table : Table} {bounds : Bounds} (end : SearchResult) → is_settled end ≡ false
    → FindsCycle table bounds (found_of end) → RanAs table bounds end
    → HaltsNowhere table bounds × HasNoCycle table bounds
both_open {table} {bounds} (Ran outcome) is found as_told =
    (halts_nowhere table bounds outcome as_told is, found)
both_open (Found verdict) is found as_told = absurd cc

-- after it was stopped
module _ {key : ℤ → ℕ} {table : Table} {bounds : Bounds} {n : ℕ} (stopped : IsStoppedAt key table bounds n)
    {old first : Meter} (counts : CountsTo table n old first) where
  -- the search for cycles is made, and the one for records or not
  adds_again : (m k : ℕ) {second new : Meter} → CountsTo table m first second → CycleSteps table bounds m
      → StepsIfMade (HaltsNowhere table bounds × HasNoCycle table bounds) (TranslationSteps table bounds) k
      → new.steps ≡ second.steps + k → new.most_cells ≡ max second.most_cells (span table k)
      → AddsRuns key table bounds true true old new
  adds_again m k {second} {new} searched is_cycles is_translations steps cells =
      let steps_one : first.steps ≡ old.steps + n = ap (λ (m : Meter). m.steps) counts in
      let steps_two : second.steps ≡ first.steps + m = ap (λ (m : Meter). m.steps) searched in
      let cells_one : first.most_cells ≡ max old.most_cells (span table n) =
      ap (λ (m : Meter). m.most_cells) counts in
      let cells_two : second.most_cells ≡ max first.most_cells (span table m) =
      ap (λ (m : Meter). m.most_cells) searched in
      record {
        count = n + (m + k);
        latest = max n (max m k);
        runs = inr (record {
          stop = n;
          is_stop = stopped;
          cycles = m;
          is_cycles = is_cycles;
          translations = k;
          is_translations = is_translations;
          sum = refl;
          is_latest = refl;
        });
        steps = omega arith;
        most_cells = omega (arith, cells, cells_one, cells_two, widest table m k, widest table n (max m k));
      }

  -- where the search for cycles settles it, no other is made
  pub settled_adds : {new : Meter} (search_result : SearchResult) → is_settled search_result ≡ true
      → FindsCycle table bounds (found_of search_result) → RanAs table bounds search_result
      → CountsSearch table bounds first new (found_of search_result) → AddsRuns key table bounds true true old new
  settled_adds {new} search_result settled finds ran searched =
      let made = makes_cycles table bounds (found_of search_result) finds searched in
      let cells : new.most_cells ≡ max first.most_cells (span table made.steps) =
      ap (λ (m : Meter). m.most_cells) made.counts in
      adds_again made.steps 0 made.counts made.is_steps (inr (none_made search_result settled finds ran, refl))
      (omega arith) (omega (arith, cells, span_grows table 0 made.steps (omega arith))) where
        none_made : (end : SearchResult) → is_settled end ≡ true → FindsCycle table bounds (found_of end)
            → RanAs table bounds end → HaltsNowhere table bounds × HasNoCycle table bounds → ⊥
        none_made (Found (Cycler a b)) is found as_told made = made.1 a b found.cycle
        none_made (Ran (outcomes.Halt steps score)) is found as_told made = made.0 steps as_told.0
        none_made (Ran outcome) is found as_told made = absurd cc
        none_made (Found verdict) is found as_told made = absurd found

  -- else that for records is
  pub open_adds : {new : Meter} (second : Meter) (search_result : SearchResult) → is_settled search_result ≡ false
      → FindsCycle table bounds (found_of search_result) → RanAs table bounds search_result
      → CountsSearch table bounds first second (found_of search_result) → (other : SearchResult)
      → FindsTranslation table bounds (found_of other)
      → CountsSearch table bounds second new (found_of other) → AddsRuns key table bounds true true old new
  open_adds second search_result unsettled finds ran searched other finds_other searched_other =
      let made = makes_cycles table bounds (found_of search_result) finds searched in
      let more = makes_translations table bounds (found_of other) finds_other searched_other in
      adds_again made.steps more.steps made.counts made.is_steps
      (inl (both_open search_result unsettled finds ran, more.is_steps)) (ap (λ (m : Meter). m.steps) more.counts)
      (ap (λ (m : Meter). m.most_cells) more.counts)

-- ---- what a decision has counted, from a meter that was begun at 0

module _ {key : ℤ → ℕ} {table : Table} {bounds : Bounds} (plan : Plan) {begin mid : Meter}
    (zero : begin ≡ zero_meter) (adds : AddsRuns key table bounds plan.cyclers plan.translated begin mid)
  where
    pub runs_counted : CountsRuns key table bounds plan mid
    runs_counted =
        let no_steps : begin.steps ≡ 0 = ap (λ (m : Meter). m.steps) zero in
        let no_cells : begin.most_cells ≡ 0 = ap (λ (m : Meter). m.most_cells) zero in
        let is : mid.steps ≡ adds.count = omega arith in
        record { latest = adds.latest; runs = rw is adds.runs; most_cells = omega arith }

    -- a walk adds neither steps nor cells
    pub runs_counted_beside : (found : Option Verdict) (new : Meter) → CountsTree bounds mid new found
        → CountsRuns key table bounds plan new
    runs_counted_beside found new counts =
        let kept = walk_keeps bounds found mid new counts in
        let runs = runs_counted in
        record { latest = runs.latest; runs = rw kept.0 runs.runs; most_cells = kept.1 ∙ runs.most_cells }

-- ---- no machine has two counts

-- the steps of the single-pass run are one number
single_pass_steps_are_one : (table : Table) (bounds : Bounds) (n m : ℕ) → SinglePassSteps table bounds n
    → SinglePassSteps table bounds m → n ≡ m
single_pass_steps_are_one table bounds n m (inl one) (inl other) =
    omega (arith, one.first.first other.partner m other.first.cycle, other.first.first one.partner n one.first.cycle)
single_pass_steps_are_one table bounds n m (inl one) (inr other) = absurd (other.0 n one)
single_pass_steps_are_one table bounds n m (inr one) (inl other) = absurd (one.0 m other)
single_pass_steps_are_one table bounds n m (inr one) (inr other) =
    translation_steps_are_one table bounds n m one.1 other.1

module _ (key : ℤ → ℕ) (table : Table) (bounds : Bounds) where
  stop_is_one : (n m : ℕ) → IsStoppedAt key table bounds n → IsStoppedAt key table bounds m → n ≡ m
  stop_is_one n m one other =
      omega (arith, one.first other.partner m (other.alike, other.wide), other.first one.partner n (one.alike, one.wide))

  runs_are_one : (cyclers translated : Bool) (steps latest more later : ℕ)
      → MakesRuns key table bounds cyclers translated steps latest
      → MakesRuns key table bounds cyclers translated more later → (steps ≡ more) × (latest ≡ later)
  runs_are_one false false steps latest more later one other =
      let same = last_step_is_unique table bounds steps more one.0 other.0 in (same, cc)
  runs_are_one true false steps latest more later one other =
      let same = cycle_steps_are_one table bounds steps more one.0 other.0 in (same, cc)
  runs_are_one false true steps latest more later one other =
      let same = translation_steps_are_one table bounds steps more one.0 other.0 in (same, cc)
  runs_are_one true true steps latest more later (inl one) (inl other) =
      let same = single_pass_steps_are_one table bounds steps more one.1 other.1 in (same, cc)
  runs_are_one true true steps latest more later (inl one) (inr other) =
      absurd (one.0 other.stop other.is_stop)
  runs_are_one true true steps latest more later (inr one) (inl other) = absurd (other.0 one.stop one.is_stop)
  runs_are_one true true steps latest more later (inr one) (inr other) =
      let stop = stop_is_one one.stop other.stop one.is_stop other.is_stop in
      let cycles = cycle_steps_are_one table bounds one.cycles other.cycles one.is_cycles other.is_cycles in
      let translations = steps_if_made_are_one (HaltsNowhere table bounds × HasNoCycle table bounds)
      (TranslationSteps table bounds) (translation_steps_are_one table bounds) one.translations
      other.translations one.is_translations other.is_translations in
      (omega arith, omega arith)

pub runs_are_unique : RunsAreUnique
runs_are_unique key table bounds plan a b first second =
    runs_are_one key table bounds plan.cyclers plan.translated a.0 a.1 b.0 b.1 first second

-- where all runs were made, and then the tree was refused memory
pub runs_before_tree : {key : ℤ → ℕ} {table : Table} {bounds : Bounds} (plan : Plan) {begin mid : Meter}
    → begin ≡ zero_meter → AddsRuns key table bounds plan.cyclers plan.translated begin mid
    → {tape : Content} (new : Meter) → new.steps ≡ mid.steps → new.most_cells ≡ mid.most_cells
    → CountsRefused key table bounds plan tape new
runs_before_tree plan zero adds new same cells =
    let runs = runs_counted plan zero adds in
    inr (record { latest = runs.latest; runs = rw same runs.runs; most_cells = cells ∙ runs.most_cells })

-- where a run was refused memory, before the tree
pub runs_broken_off : {key : ℤ → ℕ} {table : Table} {bounds : Bounds} (plan : Plan) {begin : Meter}
    {tape : Content} {new : Meter} → begin ≡ zero_meter
    → BreaksOff key table bounds plan.cyclers plan.translated tape begin new → new.nodes ≡ begin.nodes
    → new.most_levels ≡ begin.most_levels → CountsRefused key table bounds plan tape new
runs_broken_off plan zero breaks nodes levels = inl (
  rw zero at breaks,
  nodes ∙ ap (λ (m : Meter). m.nodes) zero,
  levels ∙ ap (λ (m : Meter). m.most_levels) zero,
)
