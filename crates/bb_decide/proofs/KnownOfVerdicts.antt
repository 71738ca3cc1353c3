-- What a verdict is known to be, by name: what was found, and what was passed over before.
use Rattle.std.proofs.Common.{ℕ, ◌<◌, IsTrue, Option, arith}
use Rattle.bb_machine.specs.Limits.{Bounds}
use Rattle.bb_machine.specs.Machine.{Table}
use Rattle.bb_machine.specs.declared.plan.Plan.{Plan}
use Rattle.bb_sim.specs.Outcome.{HaltsInside, HaltsNowhere}
use Rattle.bb_sim.specs.Run.{IsScore}
use Rattle.bb_cert.specs.declared.verdict.Extent.{Extent}
use Rattle.bb_cert.specs.declared.verdict.Side.{Side}
use Rattle.bb_cert.specs.declared.verdict.Why.{Why}
use Rattle.bb_cert.specs.declared.verdict.Why.TheVariants.{Steps, Cells}
use Rattle.bb_cert.specs.declared.verdict.Verdict.{Verdict}
use Rattle.bb_cert.specs.declared.verdict.Verdict.TheVariants.{Halt, Cycler, Translated, Backward, Undecided}
use Rattle.bb_tree.specs.Tree.{Back}
use Rattle.bb_cert.specs.verdict.Extent.{TellsExtent}
use Rattle.bb_decide.specs.Cost.{MakesWalk}
use Rattle.bb_decide.specs.Cycle.{IsFirstCycle}
use Rattle.bb_decide.specs.Translation.{IsFirstTranslation}
use Rattle.bb_decide.specs.Verdict.{IsVerdict, PassesAll, PassesCycles, PassesTranslations, PassesTrees}

-- what was found, that its decider is on, and what was passed over where nothing was found
module _ {table : Table} {bounds : Bounds} (plan : Plan) where
  pub is_halt_within : {n ones : ℕ} → IsVerdict table bounds plan (Halt n ones) → HaltsInside table bounds n
  is_halt_within is = is.0

  pub has_score : {n ones : ℕ} → IsVerdict table bounds plan (Halt n ones) → IsScore table n ones
  has_score is = is.1

  pub is_first_cycle : {a t : ℕ} → IsVerdict table bounds plan (Cycler a t) → IsFirstCycle table bounds a t
  is_first_cycle is = is.2

  pub cyclers_are_on : {a t : ℕ} → IsVerdict table bounds plan (Cycler a t) → IsTrue plan.cyclers
  cyclers_are_on is = is.1

  pub is_first_agreement : {side : Side} {a b : ℕ} (extent : Option Extent)
      → IsVerdict table bounds plan (Translated side a b extent) → IsFirstTranslation table bounds side a b
  is_first_agreement extent is = is.3

  pub extent_is_told : {side : Side} {a b : ℕ} (extent : Option Extent)
      → IsVerdict table bounds plan (Translated side a b extent) → TellsExtent table side a b extent
  extent_is_told extent is = is.4

  pub translated_are_on : {side : Side} {a b : ℕ} (extent : Option Extent)
      → IsVerdict table bounds plan (Translated side a b extent) → IsTrue plan.translated
  translated_are_on extent is = is.2

  pub is_tree : {h k : ℕ} → IsVerdict table bounds plan (Backward h k) → Back table bounds h k
  is_tree is = is.4

  pub trees_are_on : {h k : ℕ} → IsVerdict table bounds plan (Backward h k) → IsTrue plan.backward
  trees_are_on is = is.3

  pub walk_is_made : {h k : ℕ} → IsVerdict table bounds plan (Backward h k) → MakesWalk table bounds plan
  walk_is_made is = (is.0, is.1, is.2, is.3)

  pub passes_all : (why : Why) → IsVerdict table bounds plan (Undecided why) → PassesAll table bounds plan
  passes_all Steps is = is.1
  passes_all Cells is = is.1

-- how many deciders were asked before, the run as the first
abbrev pub asked_before : Verdict → ℕ
asked_before (Halt steps score) = 0
asked_before (Cycler first second) = 1
asked_before (Translated side first second extent) = 2
asked_before (Backward levels nodes) = 3
asked_before (Undecided why) = 4

-- what was passed over before
module _ (table : Table) (bounds : Bounds) (plan : Plan) where
  pub no_halt_within : (verdict : Verdict) → IsVerdict table bounds plan verdict → 0 < asked_before verdict
      → HaltsNowhere table bounds
  no_halt_within (Halt steps score) is later = absurd (omega (arith, later))
  no_halt_within (Undecided Steps) is later = is.0.0
  no_halt_within (Undecided Cells) is later = is.0.0
  no_halt_within verdict is later = is.0

  pub passes_cycles : (verdict : Verdict) → IsVerdict table bounds plan verdict → 1 < asked_before verdict
      → PassesCycles table bounds plan
  passes_cycles (Translated side first second extent) is later = is.1
  passes_cycles (Backward levels nodes) is later = is.1
  passes_cycles (Undecided why) is later = (passes_all plan why is).0
  passes_cycles verdict is later = absurd (omega (arith, later))

  pub passes_translations : (verdict : Verdict) → IsVerdict table bounds plan verdict
      → 2 < asked_before verdict → PassesTranslations table bounds plan
  passes_translations (Backward levels nodes) is later = is.2
  passes_translations (Undecided why) is later = (passes_all plan why is).1
  passes_translations verdict is later = absurd (omega (arith, later))

  pub passes_trees : (verdict : Verdict) → IsVerdict table bounds plan verdict → 3 < asked_before verdict
      → PassesTrees table bounds plan
  passes_trees (Undecided why) is later = (passes_all plan why is).2
  passes_trees verdict is later = absurd (omega (arith, later))
