-- What deciding a machine has counted.
use Rattle.std.proofs.Common.{◌≡◌, ℕ, ◌+◌, false, IsTrue, Option, Some, None}
use Rattle.std.proofs.Common.{Result, Ok, Err, inl, inr, refl, ap, ◌∙◌, arith}
use Rattle.std.specs.Prelude.{IfOk}
use Rattle.bb_machine.specs.Limits.{Bounds}
use Rattle.bb_machine.specs.Machine.{Table}
use Rattle.bb_sim.specs.declared.meter.Meter.{Meter}
use Rattle.bb_sim.specs.Meter.{zero_meter, counted, CountsRun, CountsTo}
use Rattle.bb_sim.specs.Outcome.{HaltsInside, HaltsNowhere}
use Rattle.bb_sim.specs.Span.{span, Inside}
use Rattle.bb_sim.proofs.Facts.{span_grows}
use Rattle.bb_cert.specs.declared.verdict.Verdict.{Verdict}
use Rattle.bb_cert.specs.declared.verdict.Verdict.TheVariants.{Cycler, Translated, Backward}
use Rattle.bb_cert.proofs.Facts.{tree_has_one_end}
use Rattle.bb_machine.specs.declared.plan.Plan.{Plan}
use Rattle.bb_decide.specs.Cycle.{CountsSearch, FindsCycle}
use Rattle.bb_decide.specs.Translation.{FindsTranslation}
use Rattle.bb_decide.specs.Backward.{CountsTree, FindsTree}
use Rattle.bb_decide.specs.Verdict.{IsVerdict, PassesCycles, PassesTranslations}
use Rattle.bb_decide.specs.inside.Search.{Adds, DecidersCount, DecidersFind}
use Rattle.bb_decide.specs.inside.Search.{ReachesWalk}
use Rattle.bb_decide.specs.inside.Search.{SearchesCount, SearchesFind}
use Rattle.bb_decide.specs.Cost.{CountsWalk, CountsCost, CycleSteps, MakesCycleSearch, MakesTranslationSearch}
use Rattle.bb_decide.specs.Cost.{MakesWalk, StepsIfMade, TranslationSteps}

-- no walk was made, and none was counted
pub no_walk_counted : (Made : Type 0) (table : Table) (bounds : Bounds) (meter : Meter)
    → meter.most_levels ≡ 0 → meter.nodes ≡ 0 → (Made → ⊥) → CountsWalk Made table bounds meter
no_walk_counted Made table bounds meter levels nodes never = omega arith

-- what is made in other words costs the same
if_made_as : {One Other : Type 0} (Cost : ℕ → Type 0) {n : ℕ} → (One → Other) → (Other → One)
    → StepsIfMade One Cost n → StepsIfMade Other Cost n
if_made_as Cost on back (inl made) = inl (on made.0, made.1)
if_made_as Cost on back (inr not_made) = inr (λ made. not_made.0 (back made), not_made.1)

-- where the machine doesn't halt, the walk is made where it is reached
pub walk_where_nowhere : (table : Table) (bounds : Bounds) (plan : Plan) {meter : Meter}
    → HaltsNowhere table bounds → CountsWalk (ReachesWalk table bounds plan) table bounds meter
    → CountsWalk (MakesWalk table bounds plan) table bounds meter
walk_where_nowhere table bounds plan nowhere walk = record {
  of_tree = λ made levels nodes tree. walk.of_tree (made.1, made.2, made.3) levels nodes tree;
  within_levels = walk.within_levels;
  within_nodes = walk.within_nodes;
  not_made = λ not_made. walk.not_made (λ made. not_made (nowhere, made.0, made.1, made.2));
}

-- ---- what one search makes

-- it made the steps that it costs, and they were counted
pub record Makes (table : Table) (Cost : ℕ → Type 0) (old new : Meter) : Type 0 where
  pub steps : ℕ
  pub is_steps : Cost steps
  pub counts : CountsTo table steps old new

module _ (table : Table) (bounds : Bounds) {old new : Meter} where
  pub makes_cycles : (found : Option Verdict) → FindsCycle table bounds found
      → CountsSearch table bounds old new found → Makes table (CycleSteps table bounds) old new
  makes_cycles None none counts =
      record { steps = counts.last; is_steps = inr (none, counts.is_last); counts = counts.counts }
  makes_cycles (Some (Cycler first second)) finds counts =
      record { steps = second; is_steps = inl (first, finds); counts = counts }
  makes_cycles (Some verdict) finds counts = absurd finds

  pub makes_translations : (found : Option Verdict) → FindsTranslation table bounds found
      → CountsSearch table bounds old new found → Makes table (TranslationSteps table bounds) old new
  makes_translations None none counts =
      record { steps = counts.last; is_steps = inr (none, counts.is_last); counts = counts.counts }
  makes_translations (Some (Translated side first second extent)) finds counts =
      record { steps = second; is_steps = inl (side, first, finds.0); counts = counts }
  makes_translations (Some verdict) finds counts = absurd finds

-- the last of them is inside
module _ (table : Table) (bounds : Bounds) where
  pub cycle_step_inside : (n : ℕ) → CycleSteps table bounds n → Inside table bounds n
  cycle_step_inside n (inl found) = found.1.cycle.inside
  cycle_step_inside n (inr none) = none.1.inside

  pub translation_step_inside : (n : ℕ) → TranslationSteps table bounds n → Inside table bounds n
  translation_step_inside n (inl found) = found.2.translation.inside
  translation_step_inside n (inr none) = none.1.inside

-- ---- what the searches have counted

module _ (table : Table) (bounds : Bounds) where
  adds_nothing : (meter : Meter) → Adds table bounds 0 meter meter
  adds_nothing meter = omega arith

  adds_run : (n : ℕ) (old new : Meter) → Inside table bounds n → CountsTo table n old new
      → Adds table bounds n old new
  adds_run n old new inside counts = rw counts (record {
    steps = refl;
    cells_kept = omega arith;
    cells = λ last is_last. omega (arith, span_grows table n last (is_last.greatest n inside));
    nodes = refl;
    most_levels = refl;
  })

  adds_both : {n m : ℕ} {old mid new : Meter} → Adds table bounds n old mid → Adds table bounds m mid new
      → Adds table bounds (n + m) old new
  adds_both one other = record {
    steps = omega arith;
    cells_kept = omega arith;
    cells = λ last is_last. omega (arith, one.cells last is_last, other.cells last is_last);
    nodes = other.nodes ∙ one.nodes;
    most_levels = other.most_levels ∙ one.most_levels;
  }

  -- a search that was made or not, and what it has added
  pub record Searched (Made : Type 0) (Cost : ℕ → Type 0) (old new : Meter) : Type 0 where
    pub steps : ℕ
    pub is_steps : StepsIfMade Made Cost steps
    pub adds : Adds table bounds steps old new

  not_made : {Made : Type 0} {Cost : ℕ → Type 0} {meter : Meter} → (Made → ⊥) → Searched Made Cost meter meter
  not_made {meter = meter} off = record { steps = 0; is_steps = inr (off, refl); adds = adds_nothing meter }

  searched : {Made : Type 0} {Cost : ℕ → Type 0} {old new : Meter} → Made → Makes table Cost old new
      → ((n : ℕ) → Cost n → Inside table bounds n) → Searched Made Cost old new
  searched {old = old} {new = new} made makes inside = record {
    steps = makes.steps;
    is_steps = inl (made, makes.is_steps);
    adds = adds_run makes.steps old new (inside makes.steps makes.is_steps) makes.counts;
  }

  cycles_searched : {Made : Type 0} {old new : Meter} (found : Option Verdict) → Made
      → CountsSearch table bounds old new found
      → FindsCycle table bounds found → Searched Made (CycleSteps table bounds) old new
  cycles_searched found made counts finds =
      searched made (makes_cycles table bounds found finds counts) (cycle_step_inside table bounds)

  translations_searched : {Made : Type 0} {old new : Meter} (found : Option Verdict) → Made
      → CountsSearch table bounds old new found → FindsTranslation table bounds found
      → Searched Made (TranslationSteps table bounds) old new
  translations_searched found made counts finds =
      searched made (makes_translations table bounds found finds counts)
      (translation_step_inside table bounds)

-- no cycle was found, or none was searched for
pub record PassedCycles (table : Table) (bounds : Bounds) (plan : Plan) (old new : Meter) : Type 0 where
  pub passes : PassesCycles table bounds plan
  pub searched : Searched table bounds (IsTrue plan.cyclers) (CycleSteps table bounds) old new

-- a cycle that was found was not passed
not_passed : (table : Table) (bounds : Bounds) (plan : Plan) (verdict : Verdict) → IsTrue plan.cyclers
    → FindsCycle table bounds (Some verdict) → PassesCycles table bounds plan → ⊥
not_passed table bounds plan (Cycler first second) on found passes = passes on first second found.cycle
not_passed table bounds plan verdict on found passes = absurd found

module _ {table : Table} {bounds : Bounds} {plan : Plan} {old new : Meter} where
  pub passed_on : IsTrue plan.cyclers → FindsCycle table bounds None
      → CountsSearch table bounds old new None → PassedCycles table bounds plan old new
  passed_on on none counts = record {
    passes = λ _. none;
    searched = cycles_searched table bounds None on counts none;
  }

  pub passed_off : plan.cyclers ≡ false → new ≡ old → PassedCycles table bounds plan old new
  passed_off off same = record {
    passes = λ on. absurd cc;
    searched = rw same (not_made table bounds (λ on. cc));
  }

  counts : {mid : Meter} → Searched table bounds (IsTrue plan.cyclers) (CycleSteps table bounds) old mid
      → Searched table bounds (PassesCycles table bounds plan × IsTrue plan.translated)
      (TranslationSteps table bounds) mid new → SearchesCount table bounds plan old new
  counts one other = record {
    cycles = one.steps;
    is_cycles = one.is_steps;
    translations = other.steps;
    is_translations = other.is_steps;
    adds = adds_both table bounds one.adds other.adds;
  }

  -- then the other search is made where it is on
  pub counts_both : {mid : Meter} → PassedCycles table bounds plan old mid → IsTrue plan.translated
      → (found : Option Verdict) → FindsTranslation table bounds found
      → CountsSearch table bounds mid new found → SearchesCount table bounds plan old new
  counts_both passed on found finds counted =
      counts passed.searched (translations_searched table bounds found (passed.passes, on) counted finds)

  pub counts_one : PassedCycles table bounds plan old new → (IsTrue plan.translated → ⊥)
      → SearchesCount table bounds plan old new
  counts_one passed off = counts passed.searched (not_made table bounds (λ made. off made.1))

  -- where one was found, the other isn't made
  pub counts_cycles : (verdict : Verdict) → IsTrue plan.cyclers → FindsCycle table bounds (Some verdict)
      → CountsSearch table bounds old new (Some verdict) → SearchesCount table bounds plan old new
  counts_cycles verdict on finds counted =
      counts (cycles_searched table bounds (Some verdict) on counted finds)
      (not_made table bounds (λ made. not_passed table bounds plan verdict on finds made.0))

pub cycle_of_searches : (table : Table) (bounds : Bounds) (plan : Plan) (verdict : Verdict)
    → IsTrue plan.cyclers → FindsCycle table bounds (Some verdict)
    → SearchesFind table bounds plan (Some verdict)
cycle_of_searches table bounds plan (Cycler first second) on found = (on, found)
cycle_of_searches table bounds plan verdict on found = absurd found

-- ---- what the walk finds and counts

-- a walk keeps both steps and cells
pub walk_keeps : (bounds : Bounds) (found : Option Verdict) (old new : Meter)
    → CountsTree bounds old new found
    → (new.steps ≡ old.steps) × (new.most_cells ≡ old.most_cells)
walk_keeps bounds None old new counts = (counts.steps, counts.most_cells)
walk_keeps bounds (Some (Backward h k)) old new counts =
    (ap (λ (m : Meter). m.steps) counts, ap (λ (m : Meter). m.most_cells) counts)
walk_keeps bounds (Some verdict) old new counts = absurd counts

module _ (table : Table) (bounds : Bounds) (plan : Plan) (passes : PassesCycles table bounds plan
    × PassesTranslations table bounds plan) where
  reached : IsTrue plan.backward → ReachesWalk table bounds plan
  reached on = (passes.0, passes.1, on)

  pub counts_walk : (found : Option Verdict) (old new : Meter) → IsTrue plan.backward
      → FindsTree table bounds found → CountsTree bounds old new found
      → CountsWalk (ReachesWalk table bounds plan) table bounds new
  counts_walk None old new on finds counts = record {
    of_tree = λ _ h k tree. absurd (finds.nowhere h k tree);
    within_levels = omega arith;
    within_nodes = omega arith;
    not_made = λ not_made. absurd (not_made (reached on));
  }
  counts_walk (Some (Backward h k)) old new on finds counts =
      let levels : new.most_levels ≡ h = ap (λ (m : Meter). m.most_levels) counts ∙ omega arith in
      let nodes : new.nodes ≡ k = ap (λ (m : Meter). m.nodes) counts ∙ omega arith in
      record {
        of_tree = λ _ i j other.
            let same = tree_has_one_end table h k i j finds.ends other.ends in
            (levels ∙ same.0, nodes ∙ same.1);
        within_levels = omega arith;
        within_nodes = omega arith;
        not_made = λ not_made. absurd (not_made (reached on));
      }
  counts_walk (Some verdict) old new on finds counts = absurd finds

  -- where the searches found nothing, the walk is made where it is on
  pub counts_all : (found : Option Verdict) (begin old new : Meter)
      → SearchesCount table bounds plan begin old
      → IsTrue plan.backward → FindsTree table bounds found → CountsTree bounds old new found
      → DecidersCount table bounds plan begin new
  counts_all found begin old new searches on finds counts =
      let kept = walk_keeps bounds found old new counts in
      record {
        searched = old;
        searches = searches;
        steps = kept.0;
        most_cells = kept.1;
        walk = counts_walk found old new on finds counts;
      }

module _ (table : Table) (bounds : Bounds) (plan : Plan) where
  -- where a search has found something, no walk is reached
  pub not_reached : (verdict : Verdict) → SearchesFind table bounds plan (Some verdict)
      → PassesCycles table bounds plan → PassesTranslations table bounds plan → ⊥
  not_reached (Cycler first second) found cycles translations = cycles found.0 first second found.1.cycle
  not_reached (Translated side first second extent) found cycles translations =
      translations found.1 side first second found.2.translation
  not_reached verdict found cycles translations = absurd found

  pub counts_searches : (verdict : Verdict) (begin new : Meter) → begin.most_levels ≡ 0 → begin.nodes ≡ 0
      → SearchesFind table bounds plan (Some verdict) → SearchesCount table bounds plan begin new
      → DecidersCount table bounds plan begin new
  counts_searches verdict begin new levels nodes found searches = record {
    searched = new;
    searches = searches;
    steps = refl;
    most_cells = refl;
    walk = no_walk_counted (ReachesWalk table bounds plan) table bounds new
        (searches.adds.most_levels ∙ levels) (searches.adds.nodes ∙ nodes)
        (λ made. not_reached verdict found made.0 made.1);
  }

  pub search_of_all : (verdict : Verdict) → SearchesFind table bounds plan (Some verdict)
      → DecidersFind table bounds plan (Some verdict)
  search_of_all (Backward levels nodes) found = absurd found
  search_of_all verdict found = found

  -- the verdict, where the machine doesn't halt inside the bounds and a decider has found it
  pub verdict_of_deciders : (verdict : Verdict) → HaltsNowhere table bounds
      → DecidersFind table bounds plan (Some verdict) → IsVerdict table bounds plan verdict
  verdict_of_deciders (Cycler first second) nowhere found = (nowhere, found.0, found.1)
  verdict_of_deciders (Translated side first second extent) nowhere found =
      (nowhere, found.0, found.1, found.2, found.3)
  verdict_of_deciders (Backward levels nodes) nowhere found = (nowhere, found.0, found.1, found.2, found.3)
  verdict_of_deciders verdict nowhere found = absurd found

-- ---- what deciding has counted, from a meter that was begun at 0

module _ {table : Table} {bounds : Bounds} (plan : Plan) {begin mid : Meter} (zero : begin ≡ zero_meter)
    (run : CountsRun table bounds begin mid) where
  -- the simulation, then searches that were made or not, then a walk
  cost : {cycles translations : ℕ} {searched meter : Meter}
      → StepsIfMade (MakesCycleSearch table bounds plan) (CycleSteps table bounds) cycles
      → StepsIfMade (MakesTranslationSearch table bounds plan) (TranslationSteps table bounds) translations
      → Adds table bounds (cycles + translations) mid searched → meter.steps ≡ searched.steps
      → meter.most_cells ≡ searched.most_cells → CountsWalk (MakesWalk table bounds plan) table bounds meter
      → CountsCost table bounds plan meter
  cost {cycles} {translations} is_cycles is_translations adds same_steps same_cells walk =
      let is : mid ≡ counted zero_meter run.last (span table run.last) =
      run.counts ∙ ap (λ m. counted m run.last (span table run.last)) zero in
      let steps : mid.steps ≡ run.last = ap (λ (m : Meter). m.steps) is ∙ omega arith in
      let cells : mid.most_cells ≡ span table run.last = ap (λ (m : Meter). m.most_cells) is ∙ omega arith in
      record {
        steps = record {
          run = run.last;
          is_run = run.is_last;
          cycles = cycles;
          is_cycles = is_cycles;
          translations = translations;
          is_translations = is_translations;
          sum = omega arith;
        };
        last = run.last;
        is_last = run.is_last;
        most_cells = omega (arith, adds.cells run.last run.is_last);
        walk = walk;
      }

  -- no search is made where the machine halts
  pub cost_of_halt : (n : ℕ) → HaltsInside table bounds n → CountsCost table bounds plan mid
  cost_of_halt n halts = cost (inr (λ made. made.0 n halts, refl)) (inr (λ made. made.0 n halts, refl))
      (adds_nothing table bounds mid) refl refl
      (no_walk_counted (MakesWalk table bounds plan) table bounds mid
      (ap (λ (m : Meter). m.most_levels) run.counts ∙ ap (λ (m : Meter). m.most_levels) zero)
      (ap (λ (m : Meter). m.nodes) run.counts ∙ ap (λ (m : Meter). m.nodes) zero) (λ made. made.0 n halts))

  -- else the deciders that are on are asked
  pub cost_of_deciders : HaltsNowhere table bounds → (meter : Meter)
      → DecidersCount table bounds plan mid meter → CountsCost table bounds plan meter
  cost_of_deciders nowhere meter deciders = cost
      (if_made_as (CycleSteps table bounds) (λ on. (nowhere, on)) (λ made. made.1)
      deciders.searches.is_cycles)
      (if_made_as (TranslationSteps table bounds) (λ on. (nowhere, on.0, on.1)) (λ made. (made.1, made.2))
      deciders.searches.is_translations) deciders.searches.adds deciders.steps deciders.most_cells
      (walk_where_nowhere table bounds plan nowhere deciders.walk)

-- what holds of an answer, from two things that hold of it
pub if_ok_both : {A E : Type 0} (r : Result A E) (P Q R : A → Type 0) → ((x : A) → P x → Q x → R x)
    → IfOk r P → IfOk r Q → IfOk r R
if_ok_both (Ok x) P Q R f one other = f x one other
if_ok_both (Err e) P Q R f one other = tt
