-- Why no machine has two verdicts, nor two counts of steps.
use Rattle.std.proofs.Common.{◌≡◌, ℕ, ◌≤◌, ◌<◌, Option, inl, inr, refl, sym, ◌∙◌, arith}
use Rattle.std.proofs.lemmas.Bool.{cases_lt}
use Rattle.std.proofs.lemmas.Int.{ints}
use Rattle.bb_machine.specs.Limits.{Bounds}
use Rattle.bb_machine.specs.Machine.{Table}
use Rattle.bb_sim.specs.declared.simulation.Outcome.TheVariants.{Halt as Halts, NoSteps, NoCells}
use Rattle.bb_sim.proofs.Facts.{last_step_is_unique, outcome_is_unique}
use Rattle.bb_cert.specs.declared.verdict.Why.TheVariants.{Steps, Cells}
use Rattle.bb_machine.specs.declared.plan.Plan.{Plan}
use Rattle.bb_cert.specs.declared.verdict.Verdict.{Verdict}
use Rattle.bb_cert.specs.declared.verdict.Verdict.TheVariants.{Halt, Cycler, Translated, Backward, Undecided}
use Rattle.bb_cert.specs.declared.verdict.Extent.{Extent}
use Rattle.bb_cert.specs.declared.verdict.Side.{Side}
use Rattle.bb_cert.specs.declared.verdict.Side.TheVariants.{L, R}
use Rattle.bb_cert.specs.verdict.Extent.{TellsExtent}
use Rattle.bb_cert.proofs.Facts.{one_number, record_has_one_step, stands_on, claimed_is_one, tree_has_one_end}
use Rattle.bb_decide.specs.Cycle.{IsFirstCycle}
use Rattle.bb_decide.specs.Translation.{IsFirstTranslation}
use Rattle.bb_decide.specs.Verdict.{IsVerdict}
use Rattle.bb_decide.specs.Laws.{VerdictIsUnique, StepsAreBounded, StepsAreUnique}
use Rattle.bb_decide.specs.Cost.{CycleSteps, MakesCycleSearch, MakesTranslationSearch, StepsIfMade}
use Rattle.bb_decide.specs.Cost.{TranslationSteps}
use Rattle.bb_decide.proofs.Costs.{cycle_step_inside, translation_step_inside}
use Rattle.bb_decide.proofs.KnownOfVerdicts.{asked_before, cyclers_are_on, extent_is_told, is_first_agreement}
use Rattle.bb_decide.proofs.KnownOfVerdicts.{is_first_cycle, is_halt_within, is_tree, no_halt_within}
use Rattle.bb_decide.proofs.KnownOfVerdicts.{passes_cycles, passes_translations, passes_trees}
use Rattle.bb_decide.proofs.KnownOfVerdicts.{translated_are_on, trees_are_on}
use Rattle.bb_decide.proofs.Partners.{partner_is_unique}

-- there is one first cycle
module _ (table : Table) (bounds : Bounds) (a t b u : ℕ) (one : IsFirstCycle table bounds a t)
    (other : IsFirstCycle table bounds b u) where
  first_cycle_is_one : t ≡ u
  first_cycle_is_one = omega (arith, one.first b u other.cycle, other.first a t one.cycle)

  partner_of_cycle_is_one : a ≡ b
  partner_of_cycle_is_one =
      partner_is_unique a b u (rw (← first_cycle_is_one) one.cycle.partner) other.cycle.partner

-- there is one first record that agrees with its partner: of one side, and with one partner
module _ (table : Table) (bounds : Bounds) where
  first_translation_is_one : (s r : Side) (a b c d : ℕ) → IsFirstTranslation table bounds s a b
      → IsFirstTranslation table bounds r c d → b ≡ d
  first_translation_is_one s r a b c d one other =
      omega (arith, one.first r c d other.translation, other.first s a b one.translation)

  left_or_right : (a b c : ℕ) → IsFirstTranslation table bounds L a b → IsFirstTranslation table bounds R c b
      → ⊥
  left_or_right a b c one other =
      let left = one.translation.pair in
      let right = other.translation.pair in
      let at_left = stands_on table L left.second_number b left.second_record in
      let at_right = stands_on table R right.second_number b right.second_record in
      omega (arith, ints, at_left, at_right)

  side_is_one : (s r : Side) (a b c : ℕ) → IsFirstTranslation table bounds s a b
      → IsFirstTranslation table bounds r c b → s ≡ r
  side_is_one L L a b c one other = refl
  side_is_one R R a b c one other = refl
  side_is_one L R a b c one other = absurd (left_or_right a b c one other)
  side_is_one R L a b c one other = absurd (left_or_right c b a other one)

  partner_of_translation_is_one : (s : Side) (a b c : ℕ) → IsFirstTranslation table bounds s a b
      → IsFirstTranslation table bounds s c b → a ≡ c
  partner_of_translation_is_one s a b c one other =
      let first = one.translation.pair in
      let second = other.translation.pair in
      let number = one_number first.second_number second.second_number _
      (stands_on table s first.second_number b first.second_record)
      (stands_on table s second.second_number b second.second_record) in
      let partner = partner_is_unique first.first_number second.first_number second.second_number
      (rw number at first.partner) second.partner in
      record_has_one_step table s second.first_number a c (rw partner at first.first_record)
      second.first_record

  translations_are_one : (s r : Side) (a b c d : ℕ) (one_told other_told : Option Extent)
      → IsFirstTranslation table bounds s a b → IsFirstTranslation table bounds r c d
      → TellsExtent table s a b one_told → TellsExtent table r c d other_told
      → Translated s a b one_told ≡ Translated r c d other_told
  translations_are_one s r a b c d one_told other_told one other tells_one tells_other =
      let step = first_translation_is_one s r a b c d one other in
      let there : IsFirstTranslation table bounds r c b = rw step other in
      let side = side_is_one s r a b c one there in
      let here : IsFirstTranslation table bounds s c b = rw side there in
      let partner = partner_of_translation_is_one s a b c one here in
      let tells : TellsExtent table s a b other_told = rw (step, side, partner) tells_other in
      let told = claimed_is_one table s a b one_told other_told tells_one tells in
      cc

-- what one verdict has found isn't passed over by one that comes later
module _ (table : Table) (bounds : Bounds) (plan : Plan) where
  found_before : (a b : Verdict) → IsVerdict table bounds plan a → IsVerdict table bounds plan b
      → asked_before a < asked_before b → ⊥
  found_before (Halt n ones) b one other later =
      no_halt_within table bounds plan b other later n (is_halt_within plan one)
  found_before (Cycler first second) b one other later = passes_cycles table bounds plan b other later
      (cyclers_are_on plan one) first second (is_first_cycle plan one).cycle
  found_before (Translated side first second extent) b one other later =
      passes_translations table bounds plan b other later
      (translated_are_on plan extent one) side first second
      (is_first_agreement plan extent one).translation
  found_before (Backward levels nodes) b one other later =
      (passes_trees table bounds plan b other later (trees_are_on plan one)).nowhere levels nodes
      (is_tree plan one)
  found_before (Undecided why) (Undecided because) one other later = absurd (omega (arith, later))
  found_before (Undecided why) b one other later = absurd (omega (arith, later))

pub verdict_is_unique : VerdictIsUnique
verdict_is_unique table bounds plan (Halt n ones) (Halt m twos) a b =
    let same = outcome_is_unique table bounds (Halts n ones) (Halts m twos) a b in cc
verdict_is_unique table bounds plan (Cycler first second) (Cycler third fourth) a b =
    let one = is_first_cycle plan a in
    let other = is_first_cycle plan b in
    let firsts = partner_of_cycle_is_one table bounds first second third fourth one other in
    let seconds = first_cycle_is_one table bounds first second third fourth one other in
    cc
verdict_is_unique table bounds plan (Translated side first second extent)
    (Translated other third fourth told) a b =
    translations_are_one table bounds side other first second third fourth extent told
    (is_first_agreement plan extent a) (is_first_agreement plan told b) (extent_is_told plan extent a)
    (extent_is_told plan told b)
verdict_is_unique table bounds plan (Backward levels nodes) (Backward h k) a b =
    let same = tree_has_one_end table levels nodes h k (is_tree plan a).ends (is_tree plan b).ends in cc
verdict_is_unique table bounds plan (Undecided Steps) (Undecided Steps) a b = refl
verdict_is_unique table bounds plan (Undecided Cells) (Undecided Cells) a b = refl
verdict_is_unique table bounds plan (Undecided Steps) (Undecided Cells) a b =
    let same = outcome_is_unique table bounds NoSteps NoCells a.0 b.0 in cc
verdict_is_unique table bounds plan (Undecided Cells) (Undecided Steps) a b =
    let same = outcome_is_unique table bounds NoCells NoSteps a.0 b.0 in cc
verdict_is_unique table bounds plan one other a b =
    elim (cases_lt (asked_before one) (asked_before other)) [
      | inl before ↦ absurd (found_before table bounds plan one other a b before)
      | inr late ↦ absurd (found_before table bounds plan other one b a (omega (arith, late)))
    ]

module _ (table : Table) (bounds : Bounds) where
  pub cycle_steps_are_one : (n m : ℕ) → CycleSteps table bounds n → CycleSteps table bounds m → n ≡ m
  cycle_steps_are_one n m (inl one) (inl other) = first_cycle_is_one table bounds one.0 n other.0 m one.1
      other.1
  cycle_steps_are_one n m (inl one) (inr none) = absurd (none.0 one.0 n one.1.cycle)
  cycle_steps_are_one n m (inr none) (inl other) = absurd (none.0 other.0 m other.1.cycle)
  cycle_steps_are_one n m (inr one) (inr other) = last_step_is_unique table bounds n m one.1 other.1

  pub translation_steps_are_one : (n m : ℕ) → TranslationSteps table bounds n
      → TranslationSteps table bounds m → n ≡ m
  translation_steps_are_one n m (inl one) (inl other) =
      first_translation_is_one table bounds one.0 other.0 one.1 n other.1 m one.2 other.2
  translation_steps_are_one n m (inl one) (inr none) = absurd (none.0 one.0 one.1 n one.2.translation)
  translation_steps_are_one n m (inr none) (inl other) = absurd (none.0 other.0 other.1 m other.2.translation)
  translation_steps_are_one n m (inr one) (inr other) = last_step_is_unique table bounds n m one.1 other.1

-- what is made costs as much each time, if its steps do
pub steps_if_made_are_one : (Made : Type 0) (Cost : ℕ → Type 0) → ((n m : ℕ) → Cost n → Cost m → n ≡ m)
    → (n m : ℕ) → StepsIfMade Made Cost n → StepsIfMade Made Cost m → n ≡ m
steps_if_made_are_one Made Cost one n m (inl first) (inl second) = one n m first.1 second.1
steps_if_made_are_one Made Cost one n m (inl first) (inr second) = absurd (second.0 first.0)
steps_if_made_are_one Made Cost one n m (inr first) (inl second) = absurd (first.0 second.0)
steps_if_made_are_one Made Cost one n m (inr first) (inr second) = first.1 ∙ sym second.1

pub steps_are_unique : StepsAreUnique
steps_are_unique table bounds plan a b first second =
    let run = last_step_is_unique table bounds first.run second.run first.is_run second.is_run in
    let cycles = steps_if_made_are_one (MakesCycleSearch table bounds plan) (CycleSteps table bounds)
    (cycle_steps_are_one table bounds) first.cycles second.cycles first.is_cycles second.is_cycles in
    let translations = steps_if_made_are_one (MakesTranslationSearch table bounds plan)
    (TranslationSteps table bounds) (translation_steps_are_one table bounds) first.translations
    second.translations first.is_translations second.is_translations in
    omega arith

few_if_made : (Made : Type 0) (Cost : ℕ → Type 0) (most : ℕ) → ((n : ℕ) → Cost n → n ≤ most) → (n : ℕ)
    → StepsIfMade Made Cost n → n ≤ most
few_if_made Made Cost most few n (inl made) = few n made.1
few_if_made Made Cost most few n (inr not_made) = omega (arith, not_made.1)

pub steps_are_bounded : StepsAreBounded
steps_are_bounded table bounds plan steps is =
    let cycles = few_if_made (MakesCycleSearch table bounds plan) (CycleSteps table bounds) bounds.steps
    (λ n made. (cycle_step_inside table bounds n made).within_steps) is.cycles is.is_cycles in
    let translations = few_if_made (MakesTranslationSearch table bounds plan) (TranslationSteps table bounds)
    bounds.steps (λ n made. (translation_step_inside table bounds n made).within_steps) is.translations
    is.is_translations in
    omega arith
