-- Why completions keep a verdict in which no `---` has a part.
use Rattle.std.proofs.Common.{◌≡◌, ◌≢◌, ℕ, zero, suc, ◌≤◌, Option, Some, None, option_and_then, false}
use Rattle.std.proofs.Common.{refl, ap, sym, subst, ◌∙◌, arith}
use Rattle.bb_machine.specs.declared.entry.Next.{Next}
use Rattle.bb_machine.specs.declared.entry.Next.TheVariants as state
use Rattle.bb_machine.specs.declared.entry.Entry.{Entry}
use Rattle.bb_machine.specs.declared.entry.Entry.TheVariants.{Undefined, Go}
use Rattle.bb_machine.specs.Limits.{Bounds}
use Rattle.bb_machine.specs.Machine.{Table}
use Rattle.bb_tape.specs.Content.{cell}
use Rattle.bb_sim.specs.Configuration.{Configuration, followed, entry_at, next}
use Rattle.bb_sim.specs.Run.{conf, Exists, HaltsAt, Never}
use Rattle.bb_sim.proofs.Facts.{halt_is_last}
use Rattle.bb_cert.specs.declared.verdict.Verdict.{Verdict}
use Rattle.bb_cert.specs.declared.verdict.Verdict.TheVariants.{Halt, Cycler, Translated}
use Rattle.bb_cert.specs.declared.checker.answer.Answer.TheVariants.{Ok}
use Rattle.bb_cert.specs.checker.Answer.{Applies, IsAnswer, NeedsTooMuch, Rule, answer_by, rank, undecided}
use Rattle.bb_cert.specs.checker.Answer.{too_much_named, out_of_order, too_much_needed, claim_holds}
use Rattle.bb_cert.specs.claims.Claim.{Claim}
use Rattle.bb_cert.proofs.Facts.{steps_of_never, agreeing_records_never_halt, earlier, moves}
use Rattle.bb_cert.proofs.Facts.{repeats_never_halt}
use Rattle.bb_decide.specs.Verdict.{IsVerdict}
use Rattle.bb_decide.proofs.Facts.{cyclers_are_on, extent_is_told, found_is_verdict, is_first_agreement}
use Rattle.bb_decide.proofs.Facts.{is_first_cycle, is_halt_within, translated_are_on, verdicts_hold}
use Rattle.laws_of_verdicts.specs.Completion.{IsCompletion, IsInZ, MeetsNoUndefined, CompletionsKeepAnswers}
use Rattle.laws_of_verdicts.specs.Completion.{CompletionsKeepClaims, CompletionsKeepVerdicts}
use Rattle.laws_of_verdicts.specs.Completion.{CompletionsNeverHalt}
use Rattle.laws_of_verdicts.specs.Change.{Change, Renaming, changed_next}
use Rattle.laws_of_verdicts.proofs.ChangedNotions.{AreImagesTo, first_cycle_image}
use Rattle.laws_of_verdicts.proofs.ChangedNotions.{first_translation_image, inside_image}
use Rattle.laws_of_verdicts.proofs.ChangedNotions.{no_cycle_image, pair_image}
use Rattle.laws_of_verdicts.proofs.ChangedNotions.{same_image, says_image, score_image, span_image}
use Rattle.laws_of_verdicts.proofs.ChangedNotions.{tells_image}
use Rattle.laws_of_verdicts.proofs.ChangedRuns.{AreImages}

-- nothing is changed

abbrev pub same_names : Renaming
same_names = record { new = λ n. n; old = λ n. n; old_of_new = λ n. refl; new_of_old = λ n. refl }

abbrev pub unchanged : Change
unchanged = record {
  mirrored = false;
  states = same_names;
  symbols = same_names;
  keeps_A = refl;
  keeps_0 = refl;
}

next_unchanged : (to : Next) → changed_next unchanged to ≡ to
next_unchanged (state.State q) = refl
next_unchanged state.Halt = refl

same_images : (o p : Option Configuration) → p ≡ o → AreImages unchanged o p
same_images None p e = subst (AreImages unchanged None) (sym e) tt
same_images (Some c) p e = subst (AreImages unchanged (Some c)) (sym e) (record {
  state = sym (next_unchanged c.state);
  head = refl;
  cells = λ q. refl;
  scores = refl;
})

module _ (table filled : Table) (completion : IsCompletion table filled) where
  same_entry : (to : Next) (symbol : ℕ) (entry : Entry) → entry_at table to symbol ≡ entry → entry ≢ Undefined
      → entry_at filled to symbol ≡ entry
  same_entry (state.State q) symbol entry e some = completion.kept q symbol (λ undefined. some (sym e ∙ undefined)) ∙ e
  same_entry state.Halt symbol entry e some = e

  followed_kept : (c d : Configuration) (entry : Entry) → entry_at table c.state (cell c.tape c.head) ≡ entry
      → followed entry c ≡ Some d → next filled c ≡ Some d
  unfolding next
  followed_kept c d Undefined e leads = absurd cc
  followed_kept c d (Go write dir to) e leads = ap (λ x. followed x c)
      (same_entry c.state (cell c.tape c.head) (Go write dir to) e (λ undefined. cc)) ∙ leads

  -- each step of the machine is one of its completion
  next_kept : (c d : Configuration) → next table c ≡ Some d → next filled c ≡ Some d
  unfolding next
  next_kept c d e = followed_kept c d (entry_at table c.state (cell c.tape c.head)) refl e

  pub conf_kept : (n : ℕ) (c : Configuration) → conf table n ≡ Some c → conf filled n ≡ Some c
  unfolding conf
  conf_kept zero c e = e
  conf_kept (suc n) c e =
      let moved = moves table n (record { here = c; exists = e }) in
      let same : Some moved.then_here ≡ Some c = sym moved.at_then ∙ e in
      ap (option_and_then (next filled)) (conf_kept n moved.before moved.at_before)
      ∙ next_kept moved.before moved.then_here moved.is_next ∙ same

  alike : (n : ℕ) → Exists table n → (m : ℕ) → m ≤ n → conf filled m ≡ conf table m
  alike n there m h =
      let here = earlier table n m h there in
      conf_kept m here.here here.exists ∙ sym here.exists

  alike_to : (n : ℕ) → Exists table n → AreImagesTo unchanged table filled n
  alike_to n there m h = same_images (conf table m) (conf filled m) (alike n there m h)

  -- a halt in Z is one of the completion
  halts_kept : (n : ℕ) → IsInZ table n → HaltsAt filled n
  unfolding next
  halts_kept n at = record {
    last = at.here;
    exists = conf_kept n at.here at.exists;
    no_next = ap (λ s. followed (entry_at filled s (cell at.here.tape at.here.head)) at.here) at.in_z;
  }

  alike_always : Never table → (n : ℕ) → AreImagesTo unchanged table filled n
  alike_always never n = alike_to n (steps_of_never table never n)

  back_always : Never table → (n : ℕ) → AreImagesTo unchanged filled table n
  back_always never n m h = same_images (conf filled m) (conf table m)
      (sym (alike n (steps_of_never table never n) m h))

  never_kept : Never table → Never filled
  never_kept never = record {
    never = λ n halts.
        let later = steps_of_never table never (suc n) in
        let no_later = halt_is_last filled n (suc n) later.here halts
        (conf_kept (suc n) later.here later.exists) in
        absurd (omega (arith, no_later));
  }

  claim_kept : (verdict : Verdict) → MeetsNoUndefined table verdict → Claim table verdict → Claim filled verdict
  claim_kept (Halt n ones) at claim =
      let alike = alike_to n (record { here = at.here; exists = at.exists }) in
      (halts_kept n at, score_image unchanged table filled n alike ones claim.1)
  claim_kept (Cycler a b) at claim =
      let alike = alike_to b (record { here = claim.1.here; exists = claim.1.at_second }) in
      let less = claim.0 in
      (less, same_image unchanged table filled b alike a (omega (arith, less)) claim.1)
  claim_kept (Translated side a b extent) at claim =
      let alike = alike_to b (record { here = claim.0.agree.second; exists = claim.0.agree.at_second }) in (
        pair_image unchanged table filled b alike side a claim.0,
        says_image unchanged table filled b alike side a extent (omega (arith, claim.0.in_order)) claim.1,
      )
  claim_kept verdict at claim = absurd at

  verdict_kept : (bounds : Bounds) (plan : _) (verdict : Verdict) → MeetsNoUndefined table verdict
      → IsVerdict table bounds plan verdict → IsVerdict filled bounds plan verdict
  verdict_kept bounds plan (Halt n ones) at is =
      let claim = claim_kept (Halt n ones) at (verdicts_hold table bounds plan (Halt n ones) is) in
      let alike = alike_to n (record { here = at.here; exists = at.exists }) in
      let inside = inside_image unchanged table filled n alike bounds (is_halt_within plan is).inside in
      (record { halts = claim.0; inside = inside }, claim.1)
  verdict_kept bounds plan (Cycler a b) at is =
      let claim = verdicts_hold table bounds plan (Cycler a b) is in
      let never = repeats_never_halt table a b claim.0 claim.1 in
      found_is_verdict filled bounds plan (Cycler a b) (
        cyclers_are_on plan is,
        first_cycle_image unchanged unchanged table filled (alike_always never)
            (back_always never) bounds a b (is_first_cycle plan is),
      )
  verdict_kept bounds plan (Translated side a b extent) at is =
      let claim = (verdicts_hold table bounds plan (Translated side a b extent) is).0 in
      let never = agreeing_records_never_halt table side a b claim in
      found_is_verdict filled bounds plan (Translated side a b extent) (
        λ on. no_cycle_image unchanged unchanged table filled (alike_always never) (back_always never) bounds
            (is.1 on),
        translated_are_on plan extent is,
        first_translation_image unchanged unchanged table filled (alike_always never) (back_always never)
            bounds side a b (is_first_agreement plan extent is),
        tells_image unchanged table filled b (alike_always never b) side a extent (omega arith)
            (extent_is_told plan extent is),
      )
  verdict_kept bounds plan verdict at is = absurd at

  -- the last step that is named exists, so the span up to it is the same
  needs_back : (bounds : Bounds) (verdict : Verdict) → MeetsNoUndefined table verdict → Claim table verdict
      → NeedsTooMuch filled bounds verdict → NeedsTooMuch table bounds verdict
  needs_back bounds (Halt n ones) at claim needs =
      let alike = alike_to n (record { here = at.here; exists = at.exists }) in
      rw (← span_image unchanged table filled n alike) needs
  needs_back bounds (Cycler a b) at claim needs =
      let alike = alike_to b (record { here = claim.1.here; exists = claim.1.at_second }) in
      rw (← span_image unchanged table filled b alike) needs
  needs_back bounds (Translated side a b extent) at claim needs =
      let alike = alike_to b (record { here = claim.0.agree.second; exists = claim.0.agree.at_second }) in
      rw (← span_image unchanged table filled b alike) needs
  needs_back bounds verdict at claim needs = absurd at

  answer_kept : (bounds : Bounds) (verdict : Verdict) → MeetsNoUndefined table verdict → (rule : Rule)
      → Ok ≡ answer_by rule → Applies table bounds verdict rule
      → ((other : Rule) → Applies table bounds verdict other → rank rule ≤ rank other)
      → IsAnswer filled bounds verdict Ok
  answer_kept bounds verdict at claim_holds is claim first = record {
    rule = claim_holds;
    is = is;
    applies = claim_kept verdict at claim;
    first = comes_first;
  } where
    comes_first : (other : Rule) → Applies filled bounds verdict other → rank claim_holds ≤ rank other
    comes_first undecided applies = first undecided applies
    comes_first too_much_named applies = first too_much_named applies
    comes_first out_of_order applies = first out_of_order applies
    comes_first too_much_needed applies = first too_much_needed (needs_back bounds verdict at claim applies)
    comes_first other applies = omega arith
  answer_kept bounds verdict at rule is applies first = absurd cc

pub completions_keep_verdicts : CompletionsKeepVerdicts
completions_keep_verdicts table filled bounds plan verdict completion at is =
    verdict_kept table filled completion bounds plan verdict at is

pub completions_keep_claims : CompletionsKeepClaims
completions_keep_claims table filled verdict completion at claim =
    claim_kept table filled completion verdict at claim

pub completions_keep_answers : CompletionsKeepAnswers
completions_keep_answers table filled bounds verdict completion at is =
    answer_kept table filled completion bounds verdict at is.rule is.is is.applies is.first

pub completions_never_halt : CompletionsNeverHalt
completions_never_halt table filled completion never = never_kept table filled completion never
