-- A confirmed pair: its steps are in order, the second is inside, and the run repeats.
use Rattle.std.proofs.Common.{◌≡◌, ℕ, ◌-◌, ◌<◌, ◌≤◌, ◌∙◌, inl, inr, subst, arith}
use Rattle.std.proofs.lemmas.Bool.{cases_lt}
use Rattle.bb_machine.specs.Limits.{Bounds}
use Rattle.bb_machine.specs.Machine.{Table}
use Rattle.bb_sim.specs.declared.meter.Meter.{Meter}
use Rattle.bb_sim.specs.Run.{Exists}
use Rattle.bb_sim.specs.Span.{Inside, span}
use Rattle.bb_cert.specs.declared.checker.answer.Answer.TheVariants as answer
use Rattle.bb_cert.specs.declared.verdict.Verdict.{Verdict}
use Rattle.bb_cert.specs.declared.verdict.Verdict.TheVariants.{Halt, Cycler, Translated, Backward, Undecided}
use Rattle.bb_cert.specs.checker.Answer.{IsAnswer, NamesTooMuch, NeedsTooMuch, Rule, answer_by, claim_holds, rank}
use Rattle.bb_cert.specs.checker.Answer.{too_much_named, too_much_needed}
use Rattle.bb_cert.specs.checker.ClaimMeter.{CountsClaim, IsOfPair, last_step}
use Rattle.bb_cert.specs.claims.Claim.{Claim}
use Rattle.laws_of_recurrence.specs.Recurrence.{CyclersRepeat, Repeats, TranslatedCyclersRepeat}
use Rattle.bb_recurrence.specs.Finding.{NamesPair}

pub record IsConfirmed (table : Table) (bounds : Bounds) (first second : ℕ) : Type 0 where
  pub order : first < second
  pub repeats : Repeats table first (second - first)
  pub inside : Inside table bounds second

late_rule : (rule : Rule) → answer.Ok ≡ answer_by rule → 5 ≤ rank rule
late_rule claim_holds is = omega arith
late_rule rule is = absurd cc

module _ (table : Table) (bounds : Bounds) (verdict : Verdict) (ok : IsAnswer table bounds verdict answer.Ok) where
  pub not_named : NamesTooMuch bounds verdict → ⊥
  not_named names =
      let late = late_rule ok.rule ok.is in
      let early = ok.first too_much_named names in
      omega (arith, late, early)

  not_needed : NeedsTooMuch table bounds verdict → ⊥
  not_needed needs =
      let late = late_rule ok.rule ok.is in
      let early = ok.first too_much_needed needs in
      omega (arith, late, early)

pub few_of : (a b : ℕ) → (a < b → ⊥) → b ≤ a
few_of a b none = elim (cases_lt a b) [
  | inl less ↦ absurd (none less)
  | inr few ↦ few
]

confirmed_of : (table : Table) (bounds : Bounds) (first second : ℕ) → first < second
    → Repeats table first (second - first) → Exists table second → second ≤ bounds.steps
    → span table second ≤ bounds.cells → IsConfirmed table bounds first second
confirmed_of table bounds first second order repeats there steps cells = record {
  order = order;
  repeats = repeats;
  inside = record { here = there.here; exists = there.exists; within_steps = steps; within_cells = cells };
}

pub confirmed : CyclersRepeat → TranslatedCyclersRepeat → (table : Table) (bounds : Bounds) (verdict : Verdict) (first second : ℕ)
    → NamesPair verdict first second → IsAnswer table bounds verdict answer.Ok → Claim table verdict
    → IsConfirmed table bounds first second
confirmed cyclers translated table bounds (Halt steps score) first second names ok claim = absurd names
confirmed cyclers translated table bounds (Backward levels nodes) first second names ok claim = absurd names
confirmed cyclers translated table bounds (Undecided why) first second names ok claim = absurd names
confirmed cyclers translated table bounds (Cycler a b) first second names ok claim =
    subst (λ x. IsConfirmed table bounds x second) names.0 (subst (IsConfirmed table bounds a) names.1
    (confirmed_of table bounds a b claim.0 (cyclers table a b claim)
    (record { here = claim.1.here; exists = claim.1.at_second })
    (few_of bounds.steps b (λ many. not_named table bounds (Cycler a b) ok (inr many)))
    (few_of bounds.cells _ (not_needed table bounds (Cycler a b) ok))))
confirmed cyclers translated table bounds (Translated side a b extent) first second names ok claim =
    subst (λ x. IsConfirmed table bounds x second) names.0 (subst (IsConfirmed table bounds a) names.1
    (confirmed_of table bounds a b claim.0.in_order (translated table side a b extent claim)
    (record { here = claim.0.agree.second; exists = claim.0.agree.at_second })
    (few_of bounds.steps b (λ many. not_named table bounds (Translated side a b extent) ok (inr many)))
    (few_of bounds.cells _ (not_needed table bounds (Translated side a b extent) ok))))

-- the last step of a pair is its second one
pub named_pair : (verdict : Verdict) (first second : ℕ) → NamesPair verdict first second
    → IsOfPair verdict × (last_step verdict ≡ second)
named_pair (Cycler a b) first second names = (tt, names.1)
named_pair (Translated side a b extent) first second names = (tt, names.1)
named_pair (Halt steps score) first second names = absurd names
named_pair (Backward levels nodes) first second names = absurd names
named_pair (Undecided why) first second names = absurd names

-- a confirmed pair counts its second step, and no tree
pub record CountsSecond (second : ℕ) (meter : Meter) : Type 0 where
  pub steps : meter.steps ≡ second
  pub no_levels : meter.most_levels ≡ 0
  pub no_nodes : meter.nodes ≡ 0

pub counts_second : (verdict : Verdict) (first second : ℕ) (meter : Meter) → NamesPair verdict first second
    → CountsClaim verdict meter → CountsSecond second meter
counts_second (Cycler a b) first second meter names counts =
    record { steps = counts.steps ∙ names.1; no_levels = counts.levels; no_nodes = counts.nodes }
counts_second (Translated side a b extent) first second meter names counts =
    record { steps = counts.steps ∙ names.1; no_levels = counts.levels; no_nodes = counts.nodes }
counts_second (Halt steps score) first second meter names counts = absurd names
counts_second (Backward levels nodes) first second meter names counts = absurd names
counts_second (Undecided why) first second meter names counts = absurd names
