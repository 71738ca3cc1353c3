-- Why a changed machine has the changed verdict, claims and answers.
use Rattle.std.proofs.Common.{◌≡◌, ℕ, zero, suc, ◌<◌, Bool, true, false, Option, List, [], ◌∷◌, length}
use Rattle.std.proofs.Common.{get_or, refl, ap, sym, subst, ◌∙◌, arith}
use Rattle.bb_machine.specs.declared.entry.Entry.{Entry}
use Rattle.bb_machine.specs.declared.entry.Entry.TheVariants.{Undefined, Go}
use Rattle.bb_machine.specs.declared.entry.Next.TheVariants as to
use Rattle.bb_machine.specs.declared.plan.Plan.{Plan}
use Rattle.bb_machine.specs.Limits.{Bounds}
use Rattle.bb_machine.specs.Machine.{Table, IsMachine, entry_of}
use Rattle.bb_tape.specs.Content.{cell}
use Rattle.bb_sim.specs.Configuration.{Configuration, start}
use Rattle.bb_sim.specs.declared.simulation.Outcome.{Outcome}
use Rattle.bb_sim.specs.declared.simulation.Outcome.TheVariants.{Halt as Halts, NoSteps, NoCells}
use Rattle.bb_sim.specs.Outcome.{HaltsInside, HaltsNowhere, IsOutcome}
use Rattle.bb_sim.specs.Run.{after, IsScore}
use Rattle.bb_sim.specs.Span.{span}
use Rattle.bb_cert.specs.declared.verdict.Extent.{Extent}
use Rattle.bb_cert.specs.declared.verdict.Side.{Side}
use Rattle.bb_cert.specs.declared.verdict.Side.TheVariants.{L, R}
use Rattle.bb_cert.specs.declared.verdict.Verdict.{Verdict}
use Rattle.bb_cert.specs.declared.verdict.Verdict.TheVariants.{Halt, Cycler, Translated, Backward}
use Rattle.bb_cert.specs.declared.verdict.Verdict.TheVariants.{Undecided}
use Rattle.bb_cert.specs.declared.verdict.Why.TheVariants.{Steps, Cells}
use Rattle.bb_cert.specs.checker.Answer.{Applies, Rule}
use Rattle.bb_cert.specs.checker.Answer.{too_much_needed, claim_holds, all_else}
use Rattle.bb_cert.specs.claims.Claim.{Claim}
use Rattle.bb_tree.specs.Tree.{MatchesOne, level, Ends, Clear, EndsWithin, HaltsNextAfter, goes_to}
use Rattle.bb_tree.specs.Tree.{IsAtHaltingEntry}
use Rattle.bb_cert.specs.verdict.Extent.{TellsExtent}
use Rattle.bb_cert.proofs.Facts.{matches_level, halts_from_level}
use Rattle.bb_decide.specs.Backward.{HasNoTree}
use Rattle.bb_decide.specs.Translation.{AgreesWithPartner, HasNoTranslation}
use Rattle.bb_decide.specs.Verdict.{IsVerdict, PassesAll}
use Rattle.bb_decide.proofs.Facts.{cyclers_are_on, extent_is_told, is_first_agreement, is_first_cycle}
use Rattle.bb_decide.proofs.Facts.{is_tree}
use Rattle.bb_decide.proofs.Facts.{passes_all, translated_are_on, trees_are_on}
use Rattle.laws_of_verdicts.specs.Change.{Change, ChangesKeepAnswers, ChangesKeepClaims}
use Rattle.laws_of_verdicts.specs.Change.{ChangesKeepVerdicts, IsChanged, changed_entry, changed_next}
use Rattle.laws_of_verdicts.specs.Change.{changed_verdict, turned_side}
use Rattle.laws_of_verdicts.proofs.ChangedNotions.{AreImagesTo, partner_before}
use Rattle.laws_of_verdicts.proofs.ChangedNotions.{first_cycle_image, first_translation_image, halts_image}
use Rattle.laws_of_verdicts.proofs.ChangedNotions.{inside_image, no_cycle_image, pair_image}
use Rattle.laws_of_verdicts.proofs.ChangedNotions.{same_image, says_image, score_image, span_image}
use Rattle.laws_of_verdicts.proofs.ChangedNotions.{tells_image, translation_image}
use Rattle.laws_of_verdicts.proofs.ChangedRuns.{IsImage, after_image, back, changed_back, cell_at, image_of}
use Rattle.laws_of_verdicts.proofs.ChangedRuns.{conf_image, start_image}
use Rattle.laws_of_verdicts.proofs.ChangedTrees.{groups_long, level_length, nodes_alike}

side-twice : (mirrored : Bool) (side : Side) → turned_side mirrored (turned_side mirrored side) ≡ side
side-twice false side = refl
side-twice true L = refl
side-twice true R = refl

verdict-back : (change : Change) (verdict : Verdict)
    → changed_verdict (back change) (changed_verdict change verdict) ≡ verdict
verdict-back change (Translated side a b extent) = ap (λ s. Translated s a b extent)
    (side-twice change.mirrored side)
verdict-back change verdict = refl

empty_of_length : {X : Type 0} (xs : List X) → length xs ≡ 0 → xs ≡ []
empty_of_length [] e = refl
empty_of_length (x ∷ xs) e = absurd (omega (arith, e))

-- some entry of a group is in a group that there is
in_states : (table : Table) (q : ℕ) (n : ℕ) → n < length (get_or table q []) → q < length table
in_states [] q n h = absurd (omega (arith, h))
in_states (group ∷ groups) zero n h = omega arith
in_states (group ∷ groups) (suc q) n h = let less = in_states groups q n h in omega (arith, less)

module _ (change : Change) (table changed : Table) (machine : IsMachine table)
    (machine_too : IsMachine changed) (is : IsChanged change table changed) where
  goes_changed : (entry : Entry) → goes_to entry ≡ to.Halt → goes_to (changed_entry change entry) ≡ to.Halt
  goes_changed Undefined e = refl
  goes_changed (Go write dir then) e = ap (changed_next change) e

  named_too : (q s : ℕ) → s < length (get_or table q [])
      → change.symbols.new s < length (get_or changed (change.states.new q) [])
  named_too q s h =
      let in_table = in_states table q s h in
      let long_too = groups_long changed machine_too (change.states.new q)
      (omega (arith, is.states, (is.states_named q).0 in_table)) in
      let new = (is.symbols_named s).0 (omega (arith, groups_long table machine q in_table, h)) in
      omega (arith, long_too, new, is.symbols)

  at_halting_image : (c d : Configuration) → IsImage change c d → IsAtHaltingEntry table c
      → IsAtHaltingEntry changed d
  at_halting_image c d image at =
      let symbol = cell_at change c d image c.head d.head image.head in
      let state : d.state ≡ to.State (change.states.new at.state) =
      image.state ∙ ap (changed_next change) at.in_state in
      record {
        state = change.states.new at.state;
        in_state = state;
        in_table = rw symbol (named_too at.state (cell c.tape c.head) at.in_table);
        halts = rw symbol (rw (is.entries at.state (cell c.tape c.head))
            (goes_changed (entry_of table at.state (cell c.tape c.head)) at.halts));
      }

  halts_next_image : (i : ℕ) → HaltsNextAfter table start i → HaltsNextAfter changed start i
  halts_next_image i halts =
      let there = image_of change (after table start i) (after changed start i) halts.then_here
      (after_image change table changed is start start (start_image change) i) halts.exists in
      record {
        then_here = there.there;
        exists = there.exists;
        at_halt = at_halting_image halts.then_here there.there there.image halts.at_halt;
      }

  matches_image : (i : ℕ) → MatchesOne (level table i) start → MatchesOne (level changed i) start
  matches_image i one = matches_level changed i start
      (halts_next_image i (halts_from_level table i start one))

  ends_image : (h k : ℕ) → Ends table h k → Ends changed h k
  ends_image h k ends = record {
    is_empty = empty_of_length (level changed h)
        (level_length change table changed machine machine_too is h ∙ ap length ends.is_empty);
    is_first = λ i less empty. ends.is_first i less (empty_of_length (level table i)
        (sym (level_length change table changed machine machine_too is i) ∙ ap length empty));
    counted = ends.counted ∙ sym (nodes_alike change table changed machine machine_too is h);
  }

-- what holds of a machine holds of the changed one, by the change; and back, by the change back
module _ (change : Change) (table changed : Table) (machine : IsMachine table)
    (machine_too : IsMachine changed) (is : IsChanged change table changed) where
  undone : IsChanged (back change) changed table
  undone = changed_back change table changed is

  there : (n : ℕ) → AreImagesTo change table changed n
  there n m h = conf_image change table changed is m

  here : (n : ℕ) → AreImagesTo (back change) changed table n
  here n m h = conf_image (back change) changed table undone m

  spans : (n : ℕ) → span changed n ≡ span table n
  spans n = span_image change table changed n (there n)

  scores : (n ones : ℕ) → IsScore table n ones → IsScore changed n ones
  scores n ones counts = score_image change table changed n (there n) ones counts

  tells : (side : Side) (a b : ℕ) (extent : Option Extent) → AgreesWithPartner table side a b
      → TellsExtent table side a b extent → TellsExtent changed (turned_side change.mirrored side) a b extent
  tells side a b extent pair said = tells_image change table changed b (there b) side a extent
      (partner_before table side a b pair) said

  clear_image : (h : ℕ) → Clear table h → Clear changed h
  clear_image h clear = record {
    clear = λ i less one. clear.clear i less
        (matches_image (back change) changed table machine_too machine undone i one);
  }

  ends_within_image : (levels nodes h k : ℕ) → EndsWithin table levels nodes h k
      → EndsWithin changed levels nodes h k
  ends_within_image levels nodes h k ends = record {
    ends = ends_image change table changed machine machine_too is h k ends.ends;
    clear = clear_image h ends.clear;
    within_levels = ends.within_levels;
    within_nodes = ends.within_nodes;
  }

  halts_inside_image : (bounds : Bounds) (n : ℕ) → HaltsInside table bounds n → HaltsInside changed bounds n
  halts_inside_image bounds n halts = record {
    halts = halts_image change table changed is n halts.halts;
    inside = inside_image change table changed n (there n) bounds halts.inside;
  }

  claim_image : (verdict : Verdict) → Claim table verdict → Claim changed (changed_verdict change verdict)
  claim_image (Halt n ones) claim =
      (halts_image change table changed is n claim.0, scores n ones claim.1)
  claim_image (Cycler a b) claim = (
    claim.0,
    same_image change table changed b (there b) a (let less = claim.0 in omega (arith, less))
        claim.1,
  )
  claim_image (Translated side a b extent) claim = (
    pair_image change table changed b (there b) side a claim.0,
    says_image change table changed b (there b) side a extent
        (let less = claim.0.in_order in omega (arith, less)) claim.1,
  )
  claim_image (Backward levels nodes) claim = (
    ends_image change table changed machine machine_too is levels nodes claim.0,
    clear_image levels
        claim.1,
  )
  claim_image (Undecided why) claim = tt

  no_halt_image : (bounds : Bounds) → HaltsNowhere table bounds → HaltsNowhere changed bounds
  no_halt_image bounds none n halts = none n (record {
    halts = halts_image (back change) changed table undone n halts.halts;
    inside = inside_image (back change) changed table n (here n) bounds halts.inside;
  })

  no_translation_image : (bounds : Bounds) → HasNoTranslation table bounds → HasNoTranslation changed bounds
  no_translation_image bounds none side a b found = none (turned_side change.mirrored side) a b
      (translation_image (back change) changed table b (here b) bounds side a found)

  -- each rule of the checker applies to both
  rule_image : (bounds : Bounds) (verdict : Verdict) (rule : Rule) → Applies table bounds verdict rule
      → Applies changed bounds (changed_verdict change verdict) rule
  rule_image bounds (Halt n ones) too_much_needed applies = rw (spans n) applies
  rule_image bounds (Cycler a b) too_much_needed applies = rw (spans b) applies
  rule_image bounds (Translated side a b extent) too_much_needed applies = rw (spans b) applies
  rule_image bounds verdict claim_holds applies = claim_image verdict applies
  rule_image bounds verdict all_else applies = tt
  rule_image bounds verdict other applies = applies

  outcome_image : (bounds : Bounds) (outcome : Outcome) → IsOutcome table bounds outcome
      → IsOutcome changed bounds outcome
  outcome_image bounds (Halts n ones) given = (halts_inside_image bounds n given.0, scores n ones given.1)
  outcome_image bounds outcome given = (no_halt_image bounds given.0, rw (spans bounds.steps) given.1)

  -- no tree of the machine means none of the changed one, since each of that is one of the machine
  module _ (ends_back : (levels nodes h k : ℕ) → EndsWithin changed levels nodes h k
      → EndsWithin table levels nodes h k) where
    no_tree_image : (bounds : Bounds) → HasNoTree table bounds → HasNoTree changed bounds
    no_tree_image bounds none =
        record { nowhere = λ h k ends. none.nowhere h k (ends_back bounds.depth bounds.nodes h k ends) }

    passes_image : (bounds : Bounds) (plan : Plan) → PassesAll table bounds plan
        → PassesAll changed bounds plan
    passes_image bounds plan passes = (
      λ on. no_cycle_image change (back change) table changed there here bounds (passes.0 on),
      λ on. no_translation_image bounds (passes.1 on),
      λ on. no_tree_image bounds (passes.2 on),
    )

    verdict_image : (bounds : Bounds) (plan : Plan) (verdict : Verdict) → IsVerdict table bounds plan verdict
        → IsVerdict changed bounds plan (changed_verdict change verdict)
    verdict_image bounds plan (Halt n ones) given = outcome_image bounds (Halts n ones) given
    verdict_image bounds plan (Cycler a b) given = (
      no_halt_image bounds given.0,
      cyclers_are_on plan given,
      first_cycle_image change (back change) table changed there here bounds a b (is_first_cycle plan given),
    )
    verdict_image bounds plan (Translated side a b extent) given =
        let first = is_first_agreement plan extent given in (
          no_halt_image bounds given.0,
          λ on. no_cycle_image change (back change) table changed there here bounds (given.1 on),
          translated_are_on plan extent given,
          first_translation_image change (back change) table changed there here bounds side a b first,
          tells side a b extent first.translation.pair (extent_is_told plan extent given),
        )
    verdict_image bounds plan (Backward levels nodes) given = (
      no_halt_image bounds given.0,
      λ on. no_cycle_image change (back change) table changed there here bounds (given.1 on),
      λ on. no_translation_image bounds (given.2 on),
      trees_are_on plan given,
      ends_within_image bounds.depth bounds.nodes levels nodes (is_tree plan given),
    )
    verdict_image bounds plan (Undecided Steps) given =
        (outcome_image bounds NoSteps given.0, passes_image bounds plan (passes_all plan Steps given))
    verdict_image bounds plan (Undecided Cells) given =
        (outcome_image bounds NoCells given.0, passes_image bounds plan (passes_all plan Cells given))

pub changes_keep_verdicts : ChangesKeepVerdicts
changes_keep_verdicts change table changed bounds plan verdict machine machine_too is given =
    verdict_image change table changed machine machine_too is
    (ends_within_image (back change) changed table machine_too machine (changed_back change table changed is))
    bounds plan verdict given

pub changes_keep_claims : ChangesKeepClaims
changes_keep_claims change table changed verdict machine machine_too is claim =
    claim_image change table changed machine machine_too is verdict claim

pub changes_keep_answers : ChangesKeepAnswers
changes_keep_answers change table changed bounds verdict answer machine machine_too is given = record {
  rule = given.rule;
  is = given.is;
  applies = rule_image change table changed machine machine_too is bounds verdict given.rule given.applies;
  first = λ other applies. given.first other (subst (λ v. Applies table bounds v other)
      (verdict-back change verdict)
      (rule_image (back change) changed table machine_too machine (changed_back change table changed is)
      bounds (changed_verdict change verdict) other applies));
}
