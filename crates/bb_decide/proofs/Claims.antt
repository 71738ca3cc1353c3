-- Why what a verdict claims holds, and why the checker confirms it under the same bounds.
use Rattle.std.proofs.Common.{ℕ, ◌<◌, ◌≤◌, ◌⊎◌, inl, inr, refl, arith}
use Rattle.bb_machine.specs.Limits.{Bounds}
use Rattle.bb_machine.specs.Machine.{Table}
use Rattle.bb_cert.specs.declared.verdict.Verdict.{Verdict}
use Rattle.bb_cert.specs.declared.verdict.Verdict.TheVariants.{Halt, Cycler, Translated, Backward, Undecided}
use Rattle.bb_cert.specs.checker.Answer.{Applies, IsOutOfOrder, IsUndecided, NamesTooMuch, NeedsTooMuch}
use Rattle.bb_cert.specs.checker.Answer.{Rule, rank}
use Rattle.bb_cert.specs.checker.Answer.{undecided, too_much_named, out_of_order, too_much_needed}
use Rattle.bb_cert.specs.checker.Answer.{claim_holds}
use Rattle.bb_cert.proofs.Facts.{claimed_is_said}
use Rattle.bb_machine.specs.declared.plan.Plan.{Plan}
use Rattle.bb_decide.specs.Laws.{VerdictsAreConfirmed, VerdictsHold}
use Rattle.bb_decide.specs.Verdict.{IsVerdict}
use Rattle.bb_decide.proofs.KnownOfVerdicts.{extent_is_told, has_score, is_first_agreement, is_first_cycle}
use Rattle.bb_decide.proofs.KnownOfVerdicts.{is_halt_within, is_tree}
use Rattle.bb_decide.proofs.Translations.{pair_agrees}

pub verdicts_hold : VerdictsHold
verdicts_hold table bounds plan (Halt steps score) is = ((is_halt_within plan is).halts, has_score plan is)
verdicts_hold table bounds plan (Cycler first second) is =
    let cycle = (is_first_cycle plan is).cycle in (cycle.partner.below, cycle.same)
verdicts_hold table bounds plan (Translated side first second extent) is = (
  pair_agrees table side first second (is_first_agreement plan extent is).translation.pair,
  claimed_is_said table side first second extent (extent_is_told plan extent is),
)
verdicts_hold table bounds plan (Backward levels nodes) is =
    let tree = is_tree plan is in (tree.ends, tree.clear)
verdicts_hold table bounds plan (Undecided why) is = tt

module _ (table : Table) (bounds : Bounds) (plan : Plan) where
  in_order : (verdict : Verdict) → IsVerdict table bounds plan verdict → IsOutOfOrder verdict → ⊥
  in_order (Cycler first second) is not =
      let below = (is_first_cycle plan is).cycle.partner.below in omega (arith, below, not)
  in_order (Translated side first second extent) is not =
      let pair = pair_agrees table side first second (is_first_agreement plan extent is).translation.pair in
      omega (arith, pair.in_order, not)
  in_order verdict is not = not

  -- the step that is named last is inside
  needs_few : (verdict : Verdict) → IsVerdict table bounds plan verdict → NeedsTooMuch table bounds verdict
      → ⊥
  needs_few (Halt steps score) is over =
      let few = (is_halt_within plan is).inside.within_cells in omega (arith, few, over)
  needs_few (Cycler first second) is over =
      let few = (is_first_cycle plan is).cycle.inside.within_cells in omega (arith, few, over)
  needs_few (Translated side first second extent) is over =
      omega (arith, (is_first_agreement plan extent is).translation.inside.within_cells, over)
  needs_few verdict is over = over

  pair_few : (first second : ℕ) → (second ≤ first → ⊥) → second ≤ bounds.steps
      → (bounds.steps < first) ⊎ (bounds.steps < second) → ⊥
  pair_few first second order few (inl a) = order (omega (arith, few, a))
  pair_few first second order few (inr b) = omega (arith, few, b)

  names_few : (verdict : Verdict) → IsVerdict table bounds plan verdict → NamesTooMuch bounds verdict → ⊥
  names_few (Halt steps score) is over =
      let few = (is_halt_within plan is).inside.within_steps in omega (arith, few, over)
  names_few (Cycler first second) is over = pair_few first second (in_order (Cycler first second) is)
      (is_first_cycle plan is).cycle.inside.within_steps over
  names_few (Translated side first second extent) is over =
      pair_few first second (in_order (Translated side first second extent) is)
      (is_first_agreement plan extent is).translation.inside.within_steps over
  names_few (Backward levels nodes) is over =
      let tree = is_tree plan is in elim over [ inl a ↦ omega (arith, a) | inr b ↦ omega (arith, b) ]
  names_few (Undecided why) is over = over

  no_rule_before : (verdict : Verdict) → IsVerdict table bounds plan verdict → (IsUndecided verdict → ⊥)
      → (other : Rule) → Applies table bounds verdict other → 5 ≤ rank other
  no_rule_before verdict is claims undecided applies = absurd (claims applies)
  no_rule_before verdict is claims too_much_named applies = absurd (names_few verdict is applies)
  no_rule_before verdict is claims out_of_order applies = absurd (in_order verdict is applies)
  no_rule_before verdict is claims too_much_needed applies = absurd (needs_few verdict is applies)
  no_rule_before verdict is claims other applies = omega arith

pub verdicts_are_confirmed : VerdictsAreConfirmed
verdicts_are_confirmed table bounds plan verdict is claims = record {
  rule = claim_holds;
  is = refl;
  applies = verdicts_hold table bounds plan verdict is;
  first = no_rule_before table bounds plan verdict is claims;
}
