-- What checking the lines of a list is summed up in, from what each line did to it.
use Rattle.std.proofs.Common.{◌≡◌, ℕ, ◌≤◌, ◌⊎◌, max, true, List, [], ◌∷◌, ◌++◌, refl, sym}
use Rattle.std.proofs.Common.{subst, ap, ◌∙◌, inl, inr, arith}
use Rattle.std.specs.Prelude.{slice_index_or}
use Rattle.std.specs.List.{FoldsTo}
use Rattle.std.proofs.lemmas.Bool.{and_from, and_parts}
use Rattle.std.proofs.lemmas.Fn.{chained_keeps}
use Rattle.bb_machine.specs.Limits.{Bounds}
use Rattle.bb_sim.specs.declared.meter.Meter.{Meter}
use Rattle.bb_sim.specs.Span.{IsLastInside, span}
use Rattle.bb_sim.proofs.Facts.{last_step_is_unique}
use Rattle.bb_cert.specs.declared.checker.answer.Answer.{Answer}
use Rattle.bb_cert.specs.declared.checker.answer.Answer.TheVariants as answer
use Rattle.bb_cert.specs.declared.verdict.reader.Line.TheVariants.{Claim}
use Rattle.bb_cert.specs.checker.Answer.{answer_text, is_fine}
use Rattle.bb_cert.specs.checker.ClaimMeter.{IsReplaySpan, IsReplayed, last_step, levels_of}
use Rattle.bb_cert.specs.checker.ClaimMeter.{nodes_of, replay_bounds}
use Rattle.bb_run.specs.declared.summary.Summary.{Summary}
use Rattle.bb_run.specs.CheckReply.{IsCheckReply, unread_text}
use Rattle.bb_run.specs.CheckSeen.{CheckSaw, SawAnswer, SawOpen, SawUnread}
use Rattle.bb_run.specs.Seen.{none_seen}
use Rattle.bb_run.specs.CheckSummary.{IsCheckSummary, IsFine, IsOkOf, IsReplayOf, IsWindowOf}
use Rattle.bb_run.proofs.Peaks.{IsPeak-over, IsPeak-past, all_more, clean_more}
use Rattle.bb_run.proofs.CheckReplies.{answered, check_reply_is_unique, never_both, one_answer, one_table}
use Rattle.bb_run.proofs.CheckReplies.{one_verdict, opened}

-- the words of answers that leave a run clean, and of those that don't
pub word_if_fine : (given : Answer) → is_fine given ≡ true
    → (answer_text given ≡ answer_text answer.Ok) ⊎ (answer_text given ≡ answer_text answer.Open)
word_if_fine answer.Ok e = inl refl
word_if_fine answer.Open e = inr refl
word_if_fine given e = cc

pub fine_by_word : (given : Answer)
    → (answer_text given ≡ answer_text answer.Ok) ⊎ (answer_text given ≡ answer_text answer.Open)
    → is_fine given ≡ true
fine_by_word answer.Ok e = refl
fine_by_word answer.Bad (inl e) = cc
fine_by_word answer.Bad (inr e) = cc
fine_by_word answer.Over (inl e) = cc
fine_by_word answer.Over (inr e) =
    let second : 118 ≡ 112 = ap (λ (bytes : List ℕ). slice_index_or bytes 1 0) e in
    absurd (omega (arith, second))
fine_by_word answer.Open e = refl

pub unread_is_apart : (unread_text ≡ answer_text answer.Ok) ⊎ (unread_text ≡ answer_text answer.Open) → ⊥
unread_is_apart (inl e) = cc
unread_is_apart (inr e) = cc

-- a line whose reply is known is fine just where that reply is
pub fine_reply : (bounds : Bounds) (line reply : List ℕ) → IsCheckReply bounds line reply → IsFine bounds line
    → (reply ≡ answer_text answer.Ok) ⊎ (reply ≡ answer_text answer.Open)
fine_reply bounds line reply is fine =
    let same = check_reply_is_unique bounds line fine.reply reply fine.is_reply is in
    subst (λ r. (r ≡ answer_text answer.Ok) ⊎ (r ≡ answer_text answer.Open)) same fine.is_fine

module _ (bounds : Bounds) (lines : List (List ℕ)) (line : List ℕ) (old new : Summary) (cost : ℕ)
    (before : IsCheckSummary bounds lines old) where
  answer_summed : SawAnswer bounds old line new cost → IsCheckSummary bounds (lines ++ line ∷ []) new
  answer_summed saw = record {
    clean = clean_more (IsFine bounds) lines before.clean (
      λ e. let now = and_parts old.clean (is_fine saw.given) (sym saw.clean ∙ e) in (now.0, fine now.1),
      λ are. saw.clean ∙ and_from old.clean (is_fine saw.given) are.0 (given_fine are.1),
    );
    oks = all_more (λ other within n l k ok. let few = within n l k ok in
        (omega (arith, few.0, steps), omega (arith, few.1, levels), omega (arith, few.2, nodes)))
        lines before.oks is_within;
    steps = elim saw.window [
      | inl window ↦ IsPeak-over (IsReplayOf bounds) before.steps (replay_of window.is_replayed)
          (only_replay window.is_replayed) steps
      | inr none ↦ IsPeak-past (IsReplayOf bounds) before.steps (no_replay none.0)
          (let made = saw.checked.steps.not_replayed none.0 in omega (arith, steps, made))
    ];
    cells = elim saw.window [
      | inl window ↦
          IsPeak-over (IsWindowOf bounds) before.cells (window_of window) (only_window window) cells
      | inr none ↦ IsPeak-past (IsWindowOf bounds) before.cells (no_window none.0) (omega (arith, cells, none.1))
    ];
    within = let w = before.within in record {
      steps = omega (arith, w.steps, saw.within.steps, steps);
      cells = omega (arith, w.cells, saw.within.cells, cells);
      levels = omega (arith, w.levels, saw.within.levels, levels);
      nodes = omega (arith, w.nodes, saw.within.nodes, nodes);
    };
  } where
    steps : new.peak.steps ≡ max old.peak.steps saw.meter.steps
    steps = ap (λ (m : Meter). m.steps) saw.peak

    levels : new.peak.most_levels ≡ max old.peak.most_levels saw.meter.most_levels
    levels = ap (λ (m : Meter). m.most_levels) saw.peak

    nodes : new.peak.nodes ≡ max old.peak.nodes saw.meter.nodes
    nodes = ap (λ (m : Meter). m.nodes) saw.peak

    cells : new.peak.most_cells ≡ max old.peak.most_cells saw.meter.most_cells
    cells = ap (λ (m : Meter). m.most_cells) saw.peak

    replay_of : IsReplayed bounds saw.verdict → IsReplayOf bounds line saw.meter.steps
    replay_of made = record {
      table = saw.table;
      verdict = saw.verdict;
      of = saw.of;
      is_replayed = made;
      is_last = saw.checked.steps.replayed made;
    }

    only_replay : IsReplayed bounds saw.verdict → (n : ℕ) → IsReplayOf bounds line n → n ≡ saw.meter.steps
    only_replay made n other =
        let verdict = one_verdict line other.table saw.table other.verdict saw.verdict other.of saw.of in
        let table = one_table line other.table saw.table other.verdict saw.verdict other.of saw.of in
        let same : IsLastInside saw.table (replay_bounds bounds saw.verdict) n
        = subst (λ v. IsLastInside saw.table (replay_bounds bounds v) n) verdict
        (subst (λ t. IsLastInside t (replay_bounds bounds other.verdict) n) table other.is_last) in
        last_step_is_unique saw.table (replay_bounds bounds saw.verdict) n saw.meter.steps same
        (saw.checked.steps.replayed made)

    no_replay : (IsReplayed bounds saw.verdict → ⊥) → (n : ℕ) → IsReplayOf bounds line n → ⊥
    no_replay none n other =
        let verdict = one_verdict line other.table saw.table other.verdict saw.verdict other.of saw.of in
        none (subst (IsReplayed bounds) verdict other.is_replayed)

    window_of : IsReplaySpan saw.table bounds saw.verdict saw.meter.most_cells
        → IsWindowOf bounds line saw.meter.most_cells
    window_of window = record { table = saw.table; verdict = saw.verdict; of = saw.of; is_width = window }

    -- each window of the line is one of the claim that was read
    same_claim : (n : ℕ) → IsWindowOf bounds line n → IsReplaySpan saw.table bounds saw.verdict n
    same_claim n other =
        let verdict = one_verdict line other.table saw.table other.verdict saw.verdict other.of saw.of in
        let table = one_table line other.table saw.table other.verdict saw.verdict other.of saw.of in
        subst (λ v. IsReplaySpan saw.table bounds v n) verdict
        (subst (λ t. IsReplaySpan t bounds other.verdict n) table other.is_width)

    only_window : IsReplaySpan saw.table bounds saw.verdict saw.meter.most_cells → (n : ℕ)
        → IsWindowOf bounds line n → n ≡ saw.meter.most_cells
    only_window window n other =
        let same = same_claim n other in
        let last = last_step_is_unique saw.table (replay_bounds bounds saw.verdict) same.last window.last
        same.is_last window.is_last in
        same.is_span ∙ ap (λ k. span saw.table k) last ∙ sym window.is_span

    no_window : (IsReplayed bounds saw.verdict → ⊥) → (n : ℕ) → IsWindowOf bounds line n → ⊥
    no_window none n other = none (same_claim n other).is_replayed

    replied : IsCheckReply bounds line (answer_text saw.given)
    replied = answered bounds line saw.table saw.verdict saw.given saw.of saw.is_answer

    fine : is_fine saw.given ≡ true → IsFine bounds line
    fine e = record { reply = answer_text saw.given; is_reply = replied; is_fine = word_if_fine saw.given e }

    given_fine : IsFine bounds line → is_fine saw.given ≡ true
    given_fine f = fine_by_word saw.given (fine_reply bounds line (answer_text saw.given) replied f)

    is_within : (n l k : ℕ) → IsOkOf bounds line n l k
        → (n ≤ new.peak.steps) × (l ≤ new.peak.most_levels) × (k ≤ new.peak.nodes)
    is_within n l k ok =
        let verdict = one_verdict line ok.table saw.table ok.verdict saw.verdict ok.of saw.of in
        let given = one_answer line saw.table ok.table saw.verdict ok.verdict saw.of ok.of bounds saw.given
        answer.Ok saw.is_answer ok.is_ok in
        let counted = saw.counted given in
        let n_is = ok.steps_are ∙ ap last_step verdict ∙ sym counted.steps in
        let l_is = ok.levels_are ∙ ap levels_of verdict ∙ sym counted.levels in
        let k_is = ok.nodes_are ∙ ap nodes_of verdict ∙ sym counted.nodes in
        (omega (arith, n_is, steps), omega (arith, l_is, levels), omega (arith, k_is, nodes))

  open_summed : SawOpen old line new cost → IsCheckSummary bounds (lines ++ line ∷ []) new
  open_summed saw = rw saw.same (record {
    clean = clean_more (IsFine bounds) lines before.clean (λ e. (e, fine), λ are. are.0);
    oks = all_more (λ other within. within) lines before.oks
        (λ n l k ok. absurd (never_both line ok.table ok.verdict saw.column ok.of saw.of));
    steps = IsPeak-past (IsReplayOf bounds) before.steps
        (λ n other. never_both line other.table other.verdict saw.column other.of saw.of) refl;
    cells = IsPeak-past (IsWindowOf bounds) before.cells
        (λ n other. never_both line other.table other.verdict saw.column other.of saw.of) refl;
    within = before.within;
  }) where
    fine : IsFine bounds line
    fine = record {
      reply = answer_text answer.Open;
      is_reply = opened bounds line saw.column saw.of;
      is_fine = inr refl;
    }

  unread_summed : SawUnread old line new cost → IsCheckSummary bounds (lines ++ line ∷ []) new
  unread_summed saw = record {
    clean = clean_more (IsFine bounds) lines before.clean (
      λ e. (let wrong = sym saw.clean ∙ e in cc),
      λ are. absurd (unread_is_apart (fine_reply bounds line unread_text unread are.1)),
    );
    oks = rw saw.peak (all_more (λ other within. within) lines before.oks
        (λ n l k ok. absurd (saw.no_line (Claim ok.table ok.verdict) ok.of)));
    steps = IsPeak-past (IsReplayOf bounds) before.steps
        (λ n other. saw.no_line (Claim other.table other.verdict) other.of)
        (ap (λ (m : Meter). m.steps) saw.peak);
    cells = IsPeak-past (IsWindowOf bounds) before.cells
        (λ n other. saw.no_line (Claim other.table other.verdict) other.of)
        (ap (λ (m : Meter). m.most_cells) saw.peak);
    within = rw saw.peak before.within;
  } where
    unread : IsCheckReply bounds line unread_text
    unread = inr (inr (record { no_line = saw.no_line; is_reply = refl }))

  line_summed : CheckSaw bounds old line new cost → IsCheckSummary bounds (lines ++ line ∷ []) new
  line_summed (inl saw) = answer_summed saw
  line_summed (inr (inl saw)) = open_summed saw
  line_summed (inr (inr saw)) = unread_summed saw

-- a run that begins with nothing counted is summed up
module _ {D : Type 0} (bounds : D → Bounds) (summary : D → Summary) (cost : D → ℕ) where
  abbrev pub CheckSawOwn : D → List ℕ → D → Type 0
  CheckSawOwn a line b = (bounds b ≡ bounds a) × CheckSaw (bounds a) (summary a) line (summary b) (cost b)

  pub check_summed : (lines : List (List ℕ)) (a b : D) → summary a ≡ none_seen → FoldsTo CheckSawOwn a lines b
      → IsCheckSummary (bounds a) lines (summary b)
  check_summed lines a b begin folds = (chained_keeps CheckSawOwn (λ past d. (bounds d ≡ bounds a)
      × IsCheckSummary (bounds a) past (summary d)) more lines a b (refl, rw begin none) folds).1
    where
      none : IsCheckSummary (bounds a) [] none_seen
      none = record {
        clean = (λ e. tt, λ all. refl);
        oks = tt;
        steps = record { bound = tt; reached = inl refl };
        cells = record { bound = tt; reached = inl refl };
        within = grind arith;
      }

      more : (past : List (List ℕ)) (d : D) (line : List ℕ) (e : D)
          → (bounds d ≡ bounds a) × IsCheckSummary (bounds a) past (summary d) → CheckSawOwn d line e
          → (bounds e ≡ bounds a) × IsCheckSummary (bounds a) (past ++ line ∷ []) (summary e)
      more past d line e before saw = (
        saw.0 ∙ before.0,
        line_summed (bounds a) past line (summary d) (summary e) (cost e) before.1
            (rw (← before.0) saw.1),
      )
