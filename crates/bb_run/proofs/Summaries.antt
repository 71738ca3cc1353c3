-- What a run over lines is summed up in, from what each line did to it.
use Rattle.std.proofs.Common.{◌≡◌, ℕ, ◌≤◌, max, List, [], ◌∷◌, ◌++◌, Option, Result, Ok, Err, refl, sym}
use Rattle.std.proofs.Common.{subst, ap, ◌∙◌, inl, inr, arith}
use Rattle.std.specs.List.{FoldsTo}
use Rattle.std.proofs.lemmas.Fn.{FoldsTo-push, chained_keeps}
use Rattle.bb_machine.specs.Limits.{Bounds}
use Rattle.bb_machine.specs.Laws.{TextsDiffer}
use Rattle.bb_machine.specs.Machine.{Table, IsMachineLine, IsTextOf}
use Rattle.bb_machine.specs.declared.plan.Plan.{Plan}
use Rattle.bb_sim.specs.declared.meter.Meter.{Meter}
use Rattle.bb_sim.specs.Span.{span, IsLastInside}
use Rattle.bb_sim.proofs.Facts.{last_step_is_unique}
use Rattle.bb_cert.specs.declared.verdict.Verdict.TheVariants.{Backward}
use Rattle.bb_decide.specs.Cost.{CountsWalk, DecisionSteps, IsWithinCost, MakesWalk}
use Rattle.bb_decide.specs.FingerprintKeys.{spread}
use Rattle.bb_decide.specs.SinglePassCost.{MakesRuns}
use Rattle.bb_decide.specs.Verdict.{IsVerdict}
use Rattle.bb_decide.proofs.Facts.{is_tree, runs_are_unique, steps_are_bounded, steps_are_unique}
use Rattle.bb_decide.proofs.Facts.{walk_is_made}
use Rattle.bb_lines.specs.declared.fault.Fault.{Fault}
use Rattle.bb_lines.specs.declared.fault.Fault.TheVariants.{Memory}
use Rattle.bb_lines.specs.Ends.{ListEnds}
use Rattle.bb_run.specs.declared.summary.Summary.{Summary}
use Rattle.bb_run.specs.Seen.{CountsExactly, CountsInSinglePass, SawBy, SawLine, SawLines, SawMachine, SawRefusal}
use Rattle.bb_run.specs.Seen.{none_seen}
use Rattle.bb_run.specs.Summary.{AreRunStepsOf, AreStepsOf, IsSinglePassSummary}
use Rattle.bb_run.specs.Summary.{IsSummed}
use Rattle.bb_run.specs.Summary.{IsRunSpanOf, IsSpanOf, IsSummary, IsTreeOf}
use Rattle.bb_run.proofs.Peaks.{IsPeak-over, IsPeak-past, all_more, clean_more}

-- two machines of one line are the same
same_table : TextsDiffer → (line : List ℕ) (a b : Table) → IsTextOf a line → IsTextOf b line → a ≡ b
same_table one line a b first second =
    one a b first.machine second.machine (first.is_text ∙ sym second.is_text)

-- deciding a machine has counted no more than it may, and the nodes and levels of its walk
record CountsWithin (bounds : Bounds) (plan : Plan) (table : Table) (meter : Meter) : Type 0 where
  within : IsWithinCost bounds meter
  walk : CountsWalk (MakesWalk table bounds plan) table bounds meter

exactly_within : (bounds : Bounds) (plan : Plan) (table : Table) (meter : Meter)
    → CountsExactly bounds plan table meter → CountsWithin bounds plan table meter
exactly_within bounds plan table meter counts = record {
  within = record {
    steps = steps_are_bounded table bounds plan meter.steps counts.steps;
    most_cells = subst (λ n. n ≤ bounds.cells) (sym counts.most_cells) counts.is_last.inside.within_cells;
    nodes = counts.walk.within_nodes;
    most_levels = counts.walk.within_levels;
  };
  walk = counts.walk;
}

-- a way to count has one count of steps and one of cells for each machine's text, and none for another line
record CountsOnce (bounds : Bounds) (plan : Plan) (Counts : Table → Meter → Type 0)
    (Steps Cells : List ℕ → ℕ → Type 0) : Type 0 where
  limited : (table : Table) (meter : Meter) → Counts table meter → CountsWithin bounds plan table meter
  steps : {line : List ℕ} {table : Table} {meter : Meter} → IsTextOf table line → Counts table meter
      → Steps line meter.steps
  cells : {line : List ℕ} {table : Table} {meter : Meter} → IsTextOf table line → Counts table meter
      → Cells line meter.most_cells
  one_of_steps : {line : List ℕ} {table : Table} {meter : Meter} → IsTextOf table line → Counts table meter
      → (n : ℕ) → Steps line n → n ≡ meter.steps
  one_of_cells : {line : List ℕ} {table : Table} {meter : Meter} → IsTextOf table line → Counts table meter
      → (n : ℕ) → Cells line n → n ≡ meter.most_cells
  machine_of_steps : {line : List ℕ} (n : ℕ) → Steps line n → IsMachineLine line
  machine_of_cells : {line : List ℕ} (n : ℕ) → Cells line n → IsMachineLine line

module _ (one : TextsDiffer) {bounds : Bounds} {plan : Plan} {Counts : Table → Meter → Type 0}
    {Steps Cells : List ℕ → ℕ → Type 0} (once : CountsOnce bounds plan Counts Steps Cells) where
  none_summed : IsSummed bounds plan Steps Cells [] none_seen
  none_summed = record {
    clean = (λ e. tt, λ all. refl);
    steps = record { bound = tt; reached = inl refl };
    cells = record { bound = tt; reached = inl refl };
    trees = tt;
    within = grind arith;
  }

  module _ (lines : List (List ℕ)) (line : List ℕ) (old new : Summary) (cost : ℕ) where
    machine_summed : IsSummed bounds plan Steps Cells lines old → SawMachine Counts old line new cost
        → IsSummed bounds plan Steps Cells (lines ++ line ∷ []) new
    machine_summed before saw =
        let steps = ap (λ (m : Meter). m.steps) saw.peak in
        let cells = ap (λ (m : Meter). m.most_cells) saw.peak in record {
          clean = clean_more IsMachineLine lines before.clean
              (λ e. (sym saw.clean ∙ e, (saw.table, saw.of)), λ are. saw.clean ∙ are.0);
          steps = IsPeak-over Steps before.steps (once.steps saw.of saw.counts)
              (once.one_of_steps saw.of saw.counts) steps;
          cells = IsPeak-over Cells before.cells (once.cells saw.of saw.counts)
              (once.one_of_cells saw.of saw.counts) cells;
          trees = all_more (λ other within h k tree.
              let few = within h k tree in
              (omega (arith, few.0, levels), omega (arith, few.1, nodes))) lines before.trees is_tree_within;
          within = grind (arith, before.within, limited.within, steps, cells, nodes, levels);
        }
      where
        limited : CountsWithin bounds plan saw.table saw.meter
        limited = once.limited saw.table saw.meter saw.counts

        nodes : new.peak.nodes ≡ max old.peak.nodes saw.meter.nodes
        nodes = ap (λ (m : Meter). m.nodes) saw.peak

        levels : new.peak.most_levels ≡ max old.peak.most_levels saw.meter.most_levels
        levels = ap (λ (m : Meter). m.most_levels) saw.peak

        is_tree_within : (h k : ℕ) → IsTreeOf bounds plan line h k
            → (h ≤ new.peak.most_levels) × (k ≤ new.peak.nodes)
        is_tree_within h k other =
            let e = same_table one line other.table saw.table other.of saw.of in
            let verdict = subst (λ t. IsVerdict t bounds plan (Backward h k)) e other.is_verdict in
            let counted = limited.walk.of_tree (walk_is_made plan verdict) h k (is_tree plan verdict) in
            (omega (arith, counted.0, levels), omega (arith, counted.1, nodes))

    refusal_summed : IsSummed bounds plan Steps Cells lines old → SawRefusal old line new cost
        → IsSummed bounds plan Steps Cells (lines ++ line ∷ []) new
    refusal_summed before saw = record {
      clean = clean_more IsMachineLine lines before.clean
          (λ e. (let wrong = sym saw.clean ∙ e in cc), λ are. absurd (saw.no_machine are.1));
      steps = IsPeak-past Steps before.steps (λ n has. saw.no_machine (once.machine_of_steps n has))
          (ap (λ (m : Meter). m.steps) saw.peak);
      cells = IsPeak-past Cells before.cells (λ n has. saw.no_machine (once.machine_of_cells n has))
          (ap (λ (m : Meter). m.most_cells) saw.peak);
      trees = rw saw.peak (all_more (λ other within. within) lines before.trees
          (λ levels nodes tree. absurd (saw.no_machine (tree.table, tree.of))));
      within = rw saw.peak before.within;
    }

  lines_summed : (lines : List (List ℕ)) (summary : Summary) → SawLines Counts lines summary
      → IsSummed bounds plan Steps Cells lines summary
  lines_summed lines summary saw = chained_keeps _ (IsSummed bounds plan Steps Cells) more lines none_seen
      summary none_summed saw where
        more : (past : List (List ℕ)) (old : Summary) (line : List ℕ) (new : Summary)
            → IsSummed bounds plan Steps Cells past old → SawLine Counts old line new
            → IsSummed bounds plan Steps Cells (past ++ line ∷ []) new
        more past old line new before (cost, inl machine) =
            machine_summed past line old new cost before machine
        more past old line new before (cost, inr refusal) =
            refusal_summed past line old new cost before refusal

module _ (one : TextsDiffer) (bounds : Bounds) (plan : Plan) where
  counts_cost : CountsOnce bounds plan (CountsExactly bounds plan) (AreStepsOf bounds plan) (IsSpanOf bounds)
  counts_cost = record {
    limited = exactly_within bounds plan;
    steps = λ of counts. record { table = _; of = of; are_steps = counts.steps };
    cells = λ of counts. record {
      table = _;
      of = of;
      last = counts.last;
      is_last = counts.is_last;
      is_span = counts.most_cells;
    };
    one_of_steps = λ {line} {table} {meter} of counts n other.
        let e = same_table one line other.table table other.of of in
        steps_are_unique table bounds plan n meter.steps
        (subst (λ t. DecisionSteps t bounds plan n) e other.are_steps) counts.steps;
    one_of_cells = λ {line} {table} {meter} of counts n other.
        let e = same_table one line other.table table other.of of in
        let last = last_step_is_unique table bounds other.last counts.last
        (subst (λ t. IsLastInside t bounds other.last) e other.is_last) counts.is_last in
        other.is_span ∙ ap (λ t. span t other.last) e ∙ ap (λ k. span table k) last ∙ sym counts.most_cells;
    machine_of_steps = λ n has. (has.table, has.of);
    machine_of_cells = λ n has. (has.table, has.of);
  }

  counts_runs : CountsOnce bounds plan (CountsInSinglePass bounds plan) (AreRunStepsOf bounds plan)
      (IsRunSpanOf bounds plan)
  counts_runs = record {
    limited = λ table meter counts. record { within = counts.within; walk = counts.walk };
    steps = λ of counts.
        record { table = _; of = of; latest = counts.runs.latest; are_steps = counts.runs.runs };
    cells = λ of counts. record {
      table = _;
      of = of;
      steps = _;
      latest = counts.runs.latest;
      runs = counts.runs.runs;
      is_span = counts.runs.most_cells;
    };
    one_of_steps = λ {line} {table} {meter} of counts n other.
        let e = same_table one line other.table table other.of of in
        (runs_are_unique spread table bounds plan (n, other.latest) (meter.steps, counts.runs.latest)
        (subst (λ t. MakesRuns spread t bounds plan.cyclers plan.translated n other.latest) e other.are_steps)
        counts.runs.runs).0;
    one_of_cells = λ {line} {table} {meter} of counts n other.
        let e = same_table one line other.table table other.of of in
        let latest = (runs_are_unique spread table bounds plan (other.steps, other.latest)
        (meter.steps, counts.runs.latest)
        (subst (λ t. MakesRuns spread t bounds plan.cyclers plan.translated other.steps other.latest) e
        other.runs)
        counts.runs.runs).1 in
        other.is_span ∙ ap (λ t. span t other.latest) e ∙ ap (λ k. span table k) latest
        ∙ sym counts.runs.most_cells;
    machine_of_steps = λ n has. (has.table, has.of);
    machine_of_cells = λ n has. (has.table, has.of);
  }

  -- a run is summed up
  pub summed : (lines : List (List ℕ)) (summary : Summary)
      → SawLines (CountsExactly bounds plan) lines summary → IsSummary bounds plan lines summary
  summed = lines_summed one counts_cost

  -- so is one that decides each machine in a single pass
  pub summed_in_single_pass : (lines : List (List ℕ)) (summary : Summary)
      → SawLines (CountsInSinglePass bounds plan) lines summary → IsSinglePassSummary bounds plan lines summary
  summed_in_single_pass = lines_summed one counts_runs

-- what a decider's lines do to its summary, whatever else it has
module _ {D : Type 0} (Counts : Bounds → Plan → Table → Meter → Type 0) (bounds : D → Bounds)
    (plan : D → Plan) (summary : D → Summary) (cost : D → ℕ) where
  abbrev pub SawOwn : D → List ℕ → D → Type 0
  SawOwn a line b = (bounds b ≡ bounds a) × (plan b ≡ plan a)
      × SawBy (Counts (bounds a) (plan a)) (summary a) line (summary b) (cost b)

  pub saw_lines : (lines : List (List ℕ)) (a b : D) → summary a ≡ none_seen → FoldsTo SawOwn a lines b
      → SawLines (Counts (bounds a) (plan a)) lines (summary b)
  saw_lines lines a b begin folds = (chained_keeps SawOwn (λ past d. (bounds d ≡ bounds a) × (plan d ≡ plan a)
      × SawLines (Counts (bounds a) (plan a)) past (summary d))
      more lines a b (refl, refl, sym begin) folds).2
    where
      more : (past : List (List ℕ)) (d : D) (line : List ℕ) (e : D)
          → (bounds d ≡ bounds a) × (plan d ≡ plan a) × SawLines (Counts (bounds a) (plan a)) past (summary d)
          → SawOwn d line e
          → (bounds e ≡ bounds a) × (plan e ≡ plan a)
          × SawLines (Counts (bounds a) (plan a)) (past ++ line ∷ []) (summary e)
      more past d line e before saw = (
        saw.0 ∙ before.0,
        saw.1 ∙ before.1,
        FoldsTo-push _ _ past _ line _ before.2 (cost e, rw (← before.0, ← before.1) saw.2),
      )

-- a list that ends so with one kind of summary ends so with each kind that follows
pub ends_by : (Reply : List ℕ → List ℕ → Type 0) {Sums Others : List (List ℕ) → Summary → Type 0}
    (left left_then held held_then : Option (List ℕ))
    → ((lines : List (List ℕ)) (summary : Summary) → Sums lines summary → Others lines summary)
    → (end : Result Summary Fault) → ListEnds Reply Sums left left_then held held_then end
    → ListEnds Reply Others left left_then held held_then end
ends_by Reply left left_then held held_then follows (Ok summary) (taken, consumed, ends) =
    (taken, consumed, (ends.0, ends.1, follows _ summary ends.2))
ends_by Reply left left_then held held_then follows (Err Memory) ends = ends
ends_by Reply left left_then held held_then follows end ends = ends
