-- Why what a run finds within small limits is the verdict within larger ones.
use Rattle.std.proofs.Common.{ℕ, inl, inr, arith}
use Rattle.std.proofs.lemmas.Bool.{cases_lt}
use Rattle.bb_machine.specs.Limits.{Bounds}
use Rattle.bb_machine.specs.Machine.{Table}
use Rattle.bb_sim.specs.Span.{Inside}
use Rattle.bb_sim.proofs.Facts.{earlier_is_inside}
use Rattle.bb_cert.specs.declared.verdict.Side.{Side}
use Rattle.bb_cert.specs.declared.verdict.Verdict.TheVariants.{Halt, Cycler, Translated}
use Rattle.bb_tree.specs.Tree.{Back}
use Rattle.bb_decide.specs.Cycle.{IsFirstCycle}
use Rattle.bb_decide.specs.Laws.{SmallLimitsDecide}
use Rattle.bb_decide.specs.Sure.{NoneIsSmaller}
use Rattle.bb_decide.specs.Translation.{IsFirstTranslation}
use Rattle.bb_decide.proofs.KnownOfVerdicts.{cyclers_are_on, extent_is_told, has_score, is_first_agreement}
use Rattle.bb_decide.proofs.KnownOfVerdicts.{is_first_cycle, is_halt_within, translated_are_on}
use Rattle.bb_decide.proofs.SinglePassVerdicts.{found_is_verdict, no_cycle_beside}

module _ (table : Table) (lower upper : Bounds) (within : NoneIsSmaller lower upper) where
  -- what is inside the smaller limits is inside the larger ones
  pub inside_upper : (n : ℕ) → Inside table lower n → Inside table upper n
  inside_upper n inside = record {
    here = inside.here;
    exists = inside.exists;
    within_steps = omega arith;
    within_cells = omega arith;
  }

  pub tree_upper : (h k : ℕ) → Back table lower h k → Back table upper h k
  tree_upper h k tree = record {
    ends = tree.ends;
    clear = tree.clear;
    within_levels = omega arith;
    within_nodes = omega arith;
  }

  -- so the first within the smaller limits is the first within the larger ones
  first_cycle_upper : (a t : ℕ) → IsFirstCycle table lower a t → IsFirstCycle table upper a t
  first_cycle_upper a t first = let here = first.cycle in record {
    cycle = record { partner = here.partner; inside = inside_upper t here.inside; same = here.same };
    first = λ b u other. elim (cases_lt u t) [
      | inl earlier ↦ first.first b u (record {
        partner = other.partner;
        inside = earlier_is_inside table lower u t (omega (arith, earlier)) here.inside;
        same = other.same;
      })
      | inr later ↦ later
    ];
  }

  first_translation_upper : (side : Side) (a b : ℕ) → IsFirstTranslation table lower side a b
      → IsFirstTranslation table upper side a b
  first_translation_upper side a b first = let here = first.translation in record {
    translation = record { pair = here.pair; inside = inside_upper b here.inside };
    first = λ next c d other. elim (cases_lt d b) [
      | inl earlier ↦ first.first next c d (record {
        pair = other.pair;
        inside = earlier_is_inside table lower d b (omega (arith, earlier)) here.inside;
      })
      | inr later ↦ later
    ];
  }

pub small_limits_decide : SmallLimitsDecide
small_limits_decide table lower upper plan trees (Halt n ones) within found is =
    let halts = is_halt_within plan is in
    let inside = inside_upper table lower upper within n halts.inside in
    (record { halts = halts.halts; inside = inside }, has_score plan is)
small_limits_decide table lower upper plan trees (Cycler first second) within found is =
    found_is_verdict table upper plan (Cycler first second)
    (cyclers_are_on plan is, first_cycle_upper table lower upper within first second (is_first_cycle plan is))
small_limits_decide table lower upper plan trees (Translated side first second extent) within found is =
    let there = first_translation_upper table lower upper within side first second
    (is_first_agreement plan extent is) in
    found_is_verdict table upper plan (Translated side first second extent) (
      λ on. no_cycle_beside table upper side first second there,
      translated_are_on plan extent is,
      there,
      extent_is_told plan extent is,
    )
small_limits_decide table lower upper plan trees verdict within found is = absurd found
