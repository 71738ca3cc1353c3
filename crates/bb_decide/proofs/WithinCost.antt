-- The bounds of what a decision counts, by its runs and its walk; and what a walk or one search alone finds.
use Rattle.std.proofs.Common.{◌≡◌, ◌∙◌, IsTrue, Option, Some, None, ap, arith}
use Rattle.bb_machine.specs.Limits.{Bounds}
use Rattle.bb_machine.specs.Machine.{Table}
use Rattle.bb_machine.specs.declared.plan.Plan.{Plan}
use Rattle.bb_sim.specs.declared.meter.Meter.{Meter}
use Rattle.bb_sim.specs.Meter.{IsWithinRun, zero_meter}
use Rattle.bb_cert.specs.declared.verdict.Verdict.TheVariants.{Backward, Cycler, Translated}
use Rattle.bb_cert.specs.declared.verdict.Verdict.{Verdict}
use Rattle.bb_tree.specs.WalkMeter.{IsWithinWalk}
use Rattle.bb_decide.specs.Backward.{FindsTree, without_nodes}
use Rattle.bb_decide.specs.Cost.{IsWithinCost}
use Rattle.bb_decide.specs.Cycle.{FindsCycle}
use Rattle.bb_decide.specs.Translation.{FindsTranslation}
use Rattle.bb_decide.specs.declared.search_result.SearchResult.{SearchResult}
use Rattle.bb_decide.specs.declared.search_result.SearchResult.TheVariants.{Found, Ran}
use Rattle.bb_decide.specs.inside.SearchResult.{EndsSearches, RanAs, found_of}
use Rattle.bb_decide.specs.inside.Search.{DecidersFind, IsWithinDeciders, IsWithinRuns, SearchesFind}

-- ---- counts

module _ {bounds : Bounds} {first mid : Meter} where
  -- two searches alone
  pub within_searches : IsWithinRuns 2 bounds first mid → IsWithinDeciders bounds first mid
  within_searches runs = record {
    steps = runs.steps;
    most_cells = runs.most_cells;
    nodes = omega (arith, runs.nodes);
    most_levels = omega (arith, runs.most_levels);
  }

  -- and then a walk
  pub within_deciders : {new : Meter} → IsWithinRuns 2 bounds first mid
      → IsWithinWalk bounds.depth bounds.nodes (without_nodes mid) new → IsWithinDeciders bounds first new
  within_deciders runs walk = record {
    steps = omega (arith, runs.steps, walk.steps);
    most_cells = omega (arith, runs.most_cells, walk.most_cells);
    nodes = omega (arith, walk.nodes_to);
    most_levels = omega (arith, walk.most_levels_to);
  }

  -- the runs of a whole decision, by a meter that was begun at 0
  pub within_runs : first ≡ zero_meter → IsWithinRuns 3 bounds first mid → IsWithinCost bounds mid
  within_runs zero runs = record {
    steps = omega (arith, runs.steps, ap (λ (m : Meter). m.steps) zero);
    most_cells = omega (arith, runs.most_cells, ap (λ (m : Meter). m.most_cells) zero);
    nodes = omega (arith, runs.nodes, ap (λ (m : Meter). m.nodes) zero);
    most_levels = omega (arith, runs.most_levels, ap (λ (m : Meter). m.most_levels) zero);
  }

  -- and then a walk
  pub within_cost : {new : Meter} → first ≡ zero_meter → IsWithinRuns 3 bounds first mid
      → IsWithinWalk bounds.depth bounds.nodes (without_nodes mid) new → IsWithinCost bounds new
  within_cost zero runs walk = record {
    steps = omega (arith, runs.steps, walk.steps, ap (λ (m : Meter). m.steps) zero);
    most_cells = omega (arith, runs.most_cells, walk.most_cells, ap (λ (m : Meter). m.most_cells) zero);
    nodes = omega (arith, walk.nodes_to);
    most_levels = omega (arith, walk.most_levels_to);
  }

-- one run, two and three are within three
module _ {bounds : Bounds} {first second : Meter} (one : IsWithinRun bounds first second) where
  pub within_one : IsWithinRuns 3 bounds first second
  within_one = record {
    steps = omega (arith, one.steps);
    most_cells = one.most_cells;
    nodes = one.nodes;
    most_levels = one.most_levels;
  }

  module _ {third : Meter} (two : IsWithinRun bounds second third) where
    pub within_two : IsWithinRuns 3 bounds first third
    within_two = record {
      steps = omega (arith, one.steps, two.steps);
      most_cells = omega (arith, one.most_cells, two.most_cells);
      nodes = two.nodes ∙ one.nodes;
      most_levels = two.most_levels ∙ one.most_levels;
    }

    pub within_three : {last : Meter} → IsWithinRun bounds third last → IsWithinRuns 3 bounds first last
    within_three three = record {
      steps = omega (arith, one.steps, two.steps, three.steps);
      most_cells = omega (arith, one.most_cells, two.most_cells, three.most_cells);
      nodes = three.nodes ∙ two.nodes ∙ one.nodes;
      most_levels = three.most_levels ∙ two.most_levels ∙ one.most_levels;
    }

-- ---- finds

module _ (table : Table) (bounds : Bounds) (plan : Plan) where
  -- the search for cycles alone
  pub cycles_end : IsTrue plan.cyclers → (IsTrue plan.translated → ⊥) → (search_result : SearchResult)
      → FindsCycle table bounds (found_of search_result) → RanAs table bounds search_result
      → EndsSearches table bounds plan search_result
  cycles_end on off (Ran outcome) none ran = (ran, (λ is. none, λ is. absurd (off is)))
  cycles_end on off (Found (Cycler first second)) found ran = (on, found)
  cycles_end on off (Found verdict) found ran = absurd found

  -- the search for agreeing records alone
  pub translations_end : (IsTrue plan.cyclers → ⊥) → IsTrue plan.translated → (search_result : SearchResult)
      → FindsTranslation table bounds (found_of search_result) → RanAs table bounds search_result
      → EndsSearches table bounds plan search_result
  translations_end off on (Ran outcome) none ran = (ran, (λ is. absurd (off is), λ is. none))
  translations_end off on (Found (Translated side first second extent)) found ran =
      (λ is. absurd (off is), on, found.0, found.1)
  translations_end off on (Found verdict) found ran = absurd found

-- after searches that found nothing a walk's find is that of the deciders
pub walk_of_all : (table : Table) (bounds : Bounds) (plan : Plan) (found : Option Verdict)
    → SearchesFind table bounds plan None → IsTrue plan.backward → FindsTree table bounds found
    → DecidersFind table bounds plan found
walk_of_all table bounds plan None passes on none = (passes.0, passes.1, λ is. none)
walk_of_all table bounds plan (Some (Backward levels nodes)) passes on back = (passes.0, passes.1, on, back)
walk_of_all table bounds plan (Some verdict) passes on never = absurd never
