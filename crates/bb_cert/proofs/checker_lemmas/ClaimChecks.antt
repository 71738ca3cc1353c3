-- Why each kind of claim is answered as it is.
use Rattle.std.proofs.Common.{◌≡◌, ℕ, ◌+◌, ◌<◌, ◌≤◌, max, Some, inl, inr, ap, sym, subst, ◌∙◌, arith}
use Rattle.std.specs.Prelude.{◌≢◌}
use Rattle.bb_machine.specs.Limits.{Bounds}
use Rattle.bb_machine.specs.Machine.{Table}
use Rattle.bb_sim.specs.declared.meter.Meter.{Meter}
use Rattle.bb_sim.specs.declared.simulation.Outcome.TheVariants.{Halt as Halts, NoSteps}
use Rattle.bb_sim.specs.Meter.{CountsRun, CountsTo, zero_meter}
use Rattle.bb_sim.specs.Outcome.{IsOutcome}
use Rattle.bb_sim.specs.Span.{Inside, IsLastInside, span}
use Rattle.bb_sim.proofs.Facts.{fits_at_halt, halt_is_unique, halts_last, last_step_is_unique}
use Rattle.bb_cert.specs.declared.checker.answer.Answer.{Answer}
use Rattle.bb_cert.specs.declared.checker.answer.Answer.TheVariants as answer
use Rattle.bb_cert.specs.declared.verdict.Verdict.{Verdict}
use Rattle.bb_cert.specs.declared.verdict.Verdict.TheVariants.{Halt, Backward}
use Rattle.bb_cert.specs.checker.Answer.{IsSettled}
use Rattle.bb_cert.specs.inside.Checks.{Checks, IsCut, Settles}
use Rattle.bb_cert.specs.inside.RegisterChecks.{AnswersPairs}
use Rattle.bb_cert.specs.checker.ClaimMeter.{CountsCheck, CountsClaim, CountsWindow, IsOfTree, IsReplayed}
use Rattle.bb_cert.specs.checker.ClaimMeter.{IsWithinClaim, last_step, levels_of, nodes_of, replay_bounds}
use Rattle.bb_tree.specs.Tree.{EndsWithin}

-- the bounds of a run that is to come to a step
abbrev pub up_to : Bounds → ℕ → Bounds
up_to bounds n = record bounds { steps = n }

not_wide : (a b : ℕ) → a ≤ b → b < a → ⊥
not_wide a b h k = omega (arith, h, k)

-- ---- halts

module _ (table : Table) (bounds : Bounds) (steps score : ℕ) where
  pub halt_elsewhere : (made found : ℕ) → IsOutcome table (up_to bounds steps) (Halts made found)
      → made ≢ steps
      → Checks table bounds (Halt steps score) answer.Bad
  halt_elsewhere made found is apart =
      let fits = fits_at_halt table (up_to bounds steps) made is.0.inside is.0.halts in
      (not_wide _ _ fits, λ claim. apart (halt_is_unique table made steps is.0.halts claim.0))

  pub runs_on : IsOutcome table (up_to bounds steps) NoSteps
      → Checks table bounds (Halt steps score) answer.Bad
  runs_on is = (
    not_wide _ _ is.1,
    λ claim. is.0 steps (record {
      halts = claim.0;
      inside = record { here = _; exists = claim.0.exists; within_steps = omega arith; within_cells = is.1 };
    }),
  )

  -- just its steps were counted
  pub halt_counts : (made found : ℕ) (meter : Meter) → IsOutcome table (up_to bounds steps) (Halts made found)
      → made ≡ steps → CountsRun table (up_to bounds steps) zero_meter meter
      → CountsTo table steps zero_meter meter
  halt_counts made found meter is same run =
      let last = halts_last table (up_to bounds steps) made is.0.inside is.0.halts in
      let at = last_step_is_unique table (up_to bounds steps) run.last made run.is_last last in
      subst (λ n. CountsTo table n zero_meter meter) (at ∙ same) run.counts

-- ---- pairs

-- a run that can't reach its limit of steps answers each claim of a pair
pub cut_answers : (table : Table) (bounds : Bounds) (given : Answer) → IsCut table bounds given
    → AnswersPairs table bounds given
cut_answers table bounds answer.Bad cut = (
  cut.1,
  λ first claim. cut.0 (record { here = _; exists = claim.1.at_second }),
  λ side first extent said. cut.0 (record { here = _; exists = said.0.agree.at_second }),
)
cut_answers table bounds answer.Over cut = cut
cut_answers table bounds answer.Ok cut = absurd cut
cut_answers table bounds answer.Open cut = absurd cut

pub fits_inside : {table : Table} (bounds : Bounds) {n : ℕ} → Inside table bounds n → n ≡ bounds.steps
    → bounds.cells < span table bounds.steps → ⊥
fits_inside {table} bounds inside at = not_wide _ _ (subst (λ k. span table k ≤ bounds.cells) at inside.within_cells)

-- ---- counts of a run

-- a run that came to its limit of steps is counted whole
pub whole_run : {table : Table} (bounds : Bounds) {n : ℕ} {meter : Meter} → Inside table bounds n
    → n ≡ bounds.steps → CountsTo table n zero_meter meter → CountsRun table bounds zero_meter meter
whole_run bounds inside at counts = record {
  last = _;
  is_last = record {
    inside = inside;
    greatest = λ m is. (let few = is.within_steps in omega (arith, few, at));
  };
  counts = counts;
}

pub run_counts : (table : Table) (verdict : Verdict) (meter : Meter) → levels_of verdict ≡ 0
    → nodes_of verdict ≡ 0
    → CountsTo table (last_step verdict) zero_meter meter → CountsClaim verdict meter
run_counts table verdict meter no_levels no_nodes is =
    let steps_is : meter.steps ≡ 0 + last_step verdict = ap (λ (m : Meter). m.steps) is in
    let levels_is : meter.most_levels ≡ 0 = ap (λ (m : Meter). m.most_levels) is in
    let nodes_is : meter.nodes ≡ 0 = ap (λ (m : Meter). m.nodes) is in
    record { steps = omega arith; levels = levels_is ∙ sym no_levels; nodes = nodes_is ∙ sym no_nodes }

-- ---- the widest window

-- a claim that isn't replayed counts none
pub no_window : (table : Table) (bounds : Bounds) (verdict : Verdict) {width : ℕ}
    → (IsReplayed bounds verdict → ⊥) → width ≡ 0 → CountsWindow table bounds verdict width
no_window table bounds verdict not_replayed none = inr (not_replayed, none)

-- a claim that is replayed counts the span of its last step
pub replay_window : (table : Table) (bounds : Bounds) (verdict : Verdict) (meter : Meter)
    → IsReplayed bounds verdict → CountsRun table (replay_bounds bounds verdict) zero_meter meter
    → CountsWindow table bounds verdict meter.most_cells
replay_window table bounds verdict meter replayed run =
    let most : meter.most_cells ≡ max 0 (span table run.last) = ap (λ (m : Meter). m.most_cells) run.counts in
    inl (record {
      is_replayed = replayed;
      last = run.last;
      is_last = run.is_last;
      is_span = omega (arith, most);
    })

-- where nothing has to be run, a rule says so
pub settled_so : (bounds : Bounds) (verdict : Verdict) (given : Answer) → Settles bounds verdict (Some given)
    → IsSettled bounds verdict
settled_so bounds verdict answer.Open settles = inl settles
settled_so bounds verdict answer.Over settles = inr (inl settles)
settled_so bounds verdict answer.Bad settles = inr (inr settles.1)
settled_so bounds verdict answer.Ok settles = absurd settles

-- ---- the cost of any answer

module _ (table : Table) (bounds : Bounds) (verdict : Verdict) (meter : Meter) where
  -- nothing is run where a rule says so
  pub settled_counts : IsSettled bounds verdict → meter ≡ zero_meter → CountsCheck table bounds verdict meter
  settled_counts settled none = record {
    steps = record { replayed = λ made. absurd (made.0 settled); not_replayed = λ not. ap (λ (m : Meter). m.steps) none };
    tree = record {
      ended = λ made. absurd (made.0 settled);
      not_walked = λ not. (ap (λ (m : Meter). m.most_levels) none, ap (λ (m : Meter). m.nodes) none);
    };
  }

  -- a replay counts its run
  pub replay_counts : IsReplayed bounds verdict → (IsOfTree verdict → ⊥)
      → CountsRun table (replay_bounds bounds verdict) zero_meter meter → CountsCheck table bounds verdict meter
  replay_counts replayed no_tree run =
      let steps_is : meter.steps ≡ 0 + run.last = ap (λ (m : Meter). m.steps) run.counts in
      let last_is : run.last ≡ meter.steps = omega arith in
      record {
        steps = record {
          replayed = λ made. subst (IsLastInside table (replay_bounds bounds verdict)) last_is run.is_last;
          not_replayed = λ not. absurd (not replayed);
        };
        tree = record {
          ended = λ made. absurd (no_tree made.1);
          not_walked = λ not. (ap (λ (m : Meter). m.most_levels) run.counts, ap (λ (m : Meter). m.nodes) run.counts);
        };
      }

module _ (table : Table) (levels nodes : ℕ) (meter : Meter) where
  -- a tree that ends within the named numbers is the one that was walked
  pub tree_counts : (bounds : Bounds) → (IsSettled bounds (Backward levels nodes) → ⊥)
      → IsWithinClaim bounds (Backward levels nodes) meter
      → ((h k : ℕ) → EndsWithin table levels nodes h k → (meter.most_levels ≡ h) × (meter.nodes ≡ k))
      → CountsCheck table bounds (Backward levels nodes) meter
  tree_counts bounds unsettled within ended = record {
    steps = record {
      replayed = λ made. absurd made.1;
      not_replayed = λ not. (let few = within.named_steps in omega (arith, few));
    };
    tree = record { ended = λ made. ended; not_walked = λ not. absurd (not (unsettled, tt)) };
  }
