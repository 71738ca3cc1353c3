-- The summary of the recurrences of a list, from the effect of each line.
use Rattle.std.proofs.Common.{◌≡◌, ℕ, ◌<◌, ◌≤◌, ◌⊎◌, max, true, List, [], ◌∷◌, ◌++◌, refl, sym}
use Rattle.std.proofs.Common.{subst, ap, ◌∙◌, inl, inr, arith}
use Rattle.std.specs.List.{FoldsTo}
use Rattle.std.proofs.lemmas.Bool.{and_from, and_parts}
use Rattle.std.proofs.lemmas.Fn.{chained_keeps}
use Rattle.bb_machine.specs.Limits.{Bounds, IsAccepted}
use Rattle.bb_machine.specs.Machine.{Table}
use Rattle.bb_sim.specs.declared.meter.Meter.{Meter}
use Rattle.bb_sim.specs.Span.{span}
use Rattle.bb_sim.proofs.Facts.{last_step_is_unique}
use Rattle.bb_cert.specs.declared.checker.answer.Answer.TheVariants.{Ok}
use Rattle.bb_cert.specs.declared.verdict.Verdict.{Verdict}
use Rattle.bb_cert.specs.declared.verdict.reader.Line.TheVariants.{Claim, Refusal}
use Rattle.bb_cert.specs.checker.ClaimMeter.{CountsWindow, IsReplaySpan, IsReplayed, replay_bounds}
use Rattle.bb_cert.specs.verdict.Line.{IsLineOf}
use Rattle.bb_cert.proofs.Facts.{answer_is_unique, line_unique}
use Rattle.bb_run.specs.declared.summary.Summary.{Summary}
use Rattle.bb_run.specs.CheckSeen.{SawOpen, SawUnread}
use Rattle.bb_run.specs.Seen.{none_seen}
use Rattle.bb_run.proofs.Facts.{IsPeak-over, IsPeak-past, all_more, clean_more}
use Rattle.bb_recurrence.specs.declared.uses.LastUses.{LastUses}
use Rattle.bb_recurrence.specs.declared.verdict.Finding.{Finding}
use Rattle.bb_recurrence.specs.declared.verdict.Finding.TheVariants.{Answered, NoPair, Recurs}
use Rattle.bb_recurrence.specs.Finding.{CountsFinding, IsFinding, IsPair}
use Rattle.bb_recurrence.specs.RecurrenceSeen.{RecurrenceSaw, SawFinding, is_clean}
use Rattle.bb_recurrence.specs.RecurrenceSummary.{AreEnough, IsConfirmedOf, IsFine, IsFineContent, IsPairWindowOf}
use Rattle.bb_recurrence.specs.RecurrenceSummary.{IsRecurrenceSummary}
use Rattle.bb_recurrence.specs.Recurrence.{CountsLong}
use Rattle.bb_recurrence.proofs.Counting.{shift_no_less}
use Rattle.bb_recurrence.proofs.RecurrenceReplies.{IsCheap, cheap, one_first, one_second}

-- one line has one content
module _ (line : List ℕ) (s t : Table) (v w : Verdict) (first : IsLineOf (Claim s v) line)
    (second : IsLineOf (Claim t w) line) where
  pub one_table : s ≡ t
  one_table = cc (line_unique (Claim s v) (Claim t w) line first second)

  pub one_verdict : v ≡ w
  one_verdict = cc (line_unique (Claim s v) (Claim t w) line first second)

-- no line is both a claim and a refusal
pub never_both : (line : List ℕ) (t : Table) (v : Verdict) (column : ℕ) → IsLineOf (Claim t v) line
    → IsLineOf (Refusal column) line → ⊥
never_both line t v column claim refusal =
    cc (line_unique (Claim t v) (Refusal column) line claim refusal)

-- ---- the steps of a pair

enough_on : (first second few many : ℕ) → few ≤ many → AreEnough first second few → AreEnough first second many
enough_on first second few many order are = record {
  short = λ s. let is = are.short s in omega (arith, is, order);
  long = λ s. let is = are.long s in omega (arith, is, order);
}

enough : (first second period steps : ℕ) → (second ≤ 4096 → steps ≡ second)
    → (4096 < second → CountsLong first second period second steps) → AreEnough first second steps
enough first second period steps recorded long = record {
  short = λ few. let is = recorded few in omega (arith, is);
  long = λ many.
      let counts = long many in
      let later = shift_no_less first second period counts.tested steps counts.shift in
      let tested = counts.no_less in
      omega (arith, tested, later);
}

-- ---- one result

module _ (table : Table) (bounds : Bounds) (verdict : Verdict) (uses : LastUses) where
  fine_of : (finding : Finding) → IsFinding table bounds verdict uses finding → is_clean finding ≡ true
      → IsFineContent bounds (Claim table verdict)
  fine_of (Recurs found) is e = inr is.0
  fine_of (Answered answer) is e = cc
  fine_of NoPair is e = inl is

  clean_of : (finding : Finding) → IsFinding table bounds verdict uses finding
      → IsFineContent bounds (Claim table verdict) → is_clean finding ≡ true
  clean_of (Recurs found) is fine = refl
  clean_of (Answered answer) is (inl none) = absurd (none is.2.0 is.2.1 is.2.2)
  clean_of (Answered answer) is (inr ok) = absurd (is.0 (answer_is_unique table bounds verdict answer Ok is.1 ok))
  clean_of NoPair is fine = refl

  -- a confirmed pair takes no fewer steps
  no_fewer : (finding : Finding) (meter : Meter) → IsFinding table bounds verdict uses finding
      → CountsFinding table bounds verdict meter finding → (line : List ℕ) (first second : ℕ)
      → IsLineOf (Claim table verdict) line → IsConfirmedOf bounds line first second
      → AreEnough first second meter.steps
  no_fewer (Recurs found) meter is counts line first second of ok =
      let v = one_verdict line ok.table table ok.verdict verdict ok.of of in
      let names = rw v at ok.names in
      let a = one_first verdict _ _ _ _ names counts.names in
      let b = one_second verdict _ _ _ _ names counts.names in
      rw (a, b) (enough counts.first counts.second _ meter.steps counts.recorded counts.long)
  no_fewer (Answered answer) meter is counts line first second of ok =
      let t = one_table line ok.table table ok.verdict verdict ok.of of in
      let v = one_verdict line ok.table table ok.verdict verdict ok.of of in
      absurd (is.0 (answer_is_unique table bounds verdict answer Ok is.1 (rw (t, v) at ok.is_ok)))
  no_fewer NoPair meter is counts line first second of ok =
      let v = one_verdict line ok.table table ok.verdict verdict ok.of of in
      absurd (is first second (rw v at ok.names))

  -- the window that was counted
  window_of : (finding : Finding) (meter : Meter) → IsFinding table bounds verdict uses finding
      → CountsFinding table bounds verdict meter finding
      → (IsPair verdict × CountsWindow table bounds verdict meter.most_cells)
      ⊎ ((IsPair verdict → ⊥) × (meter.most_cells ≡ 0))
  window_of (Recurs found) meter is counts = inl ((is.1.first, is.1.second, is.1.names), counts.window)
  window_of (Answered answer) meter is counts = inl (is.2, counts.window)
  window_of NoPair meter is counts =
      inr (λ pair. is pair.0 pair.1 pair.2, ap (λ (m : Meter). m.most_cells) counts)

-- ---- one line more

module _ (bounds : Bounds) (accepted : IsAccepted bounds) (lines : List (List ℕ)) (line : List ℕ)
    (old new : Summary) (cost : ℕ) (before : IsRecurrenceSummary bounds lines old) where
  finding_summed : SawFinding bounds old line new cost → IsRecurrenceSummary bounds (lines ++ line ∷ []) new
  finding_summed saw = record {
    clean = clean_more (IsFine bounds) lines before.clean (
      λ e. let now = and_parts old.clean (is_clean saw.finding) (sym saw.clean ∙ e) in (now.0, fine now.1),
      λ are. saw.clean ∙ and_from old.clean (is_clean saw.finding) are.0 (clean are.1),
    );
    steps = all_more (λ other within a b ok. enough_on a b _ _ (omega (arith, steps)) (within a b ok)) lines
        before.steps (λ a b ok.
        enough_on a b _ _ (omega (arith, steps)) (no_fewer saw.table bounds saw.verdict saw.uses saw.finding saw.meter
        saw.is_finding saw.counted line a b saw.of ok));
    few_steps = (let few = before.few_steps in let now = cost_is.steps in omega (arith, few, now, steps));
    cells = elim (window_of saw.table bounds saw.verdict saw.uses saw.finding saw.meter saw.is_finding saw.counted) [
      | inl counted ↦ elim counted.1 [
        | inl window ↦ IsPeak-over (IsPairWindowOf bounds) before.cells
            (record { table = saw.table; verdict = saw.verdict; of = saw.of; pair = counted.0; is_width = window })
            (only_window window) cells
        | inr none ↦ IsPeak-past (IsPairWindowOf bounds) before.cells (no_window none.0) (omega (arith, cells, none.1))
      ]
      | inr none ↦ IsPeak-past (IsPairWindowOf bounds) before.cells (no_pair none.0) (omega (arith, cells, none.1))
    ];
    few_cells = (let few = before.few_cells in let now = cost_is.cells in omega (arith, few, now, cells));
    no_levels = (let few = before.no_levels in let now = cost_is.no_levels in omega (arith, few, now, levels));
    no_nodes = (let few = before.no_nodes in let now = cost_is.no_nodes in omega (arith, few, now, nodes));
  } where
    cost_is : IsCheap bounds saw.meter
    cost_is = cheap saw.table bounds saw.verdict saw.uses saw.finding saw.meter accepted saw.is_finding saw.counted

    steps : new.peak.steps ≡ max old.peak.steps saw.meter.steps
    steps = ap (λ (m : Meter). m.steps) saw.peak

    levels : new.peak.most_levels ≡ max old.peak.most_levels saw.meter.most_levels
    levels = ap (λ (m : Meter). m.most_levels) saw.peak

    nodes : new.peak.nodes ≡ max old.peak.nodes saw.meter.nodes
    nodes = ap (λ (m : Meter). m.nodes) saw.peak

    cells : new.peak.most_cells ≡ max old.peak.most_cells saw.meter.most_cells
    cells = ap (λ (m : Meter). m.most_cells) saw.peak

    fine : is_clean saw.finding ≡ true → IsFine bounds line
    fine e = record {
      said = Claim saw.table saw.verdict;
      of = saw.of;
      fine = fine_of saw.table bounds saw.verdict saw.uses saw.finding saw.is_finding e;
    }

    clean : IsFine bounds line → is_clean saw.finding ≡ true
    clean f =
        let same : f.said ≡ Claim saw.table saw.verdict = line_unique f.said (Claim saw.table saw.verdict) line f.of
        saw.of in
        clean_of saw.table bounds saw.verdict saw.uses saw.finding saw.is_finding (subst (IsFineContent bounds) same f.fine)

    -- each window of the line is one of the claim that was read
    same_claim : (n : ℕ) → IsPairWindowOf bounds line n → IsReplaySpan saw.table bounds saw.verdict n
    same_claim n other =
        let verdict = one_verdict line other.table saw.table other.verdict saw.verdict other.of saw.of in
        let table = one_table line other.table saw.table other.verdict saw.verdict other.of saw.of in
        subst (λ v. IsReplaySpan saw.table bounds v n) verdict
        (subst (λ t. IsReplaySpan t bounds other.verdict n) table other.is_width)

    only_window : IsReplaySpan saw.table bounds saw.verdict saw.meter.most_cells → (n : ℕ)
        → IsPairWindowOf bounds line n → n ≡ saw.meter.most_cells
    only_window window n other =
        let same = same_claim n other in
        let last = last_step_is_unique saw.table (replay_bounds bounds saw.verdict) same.last window.last
        same.is_last window.is_last in
        same.is_span ∙ ap (λ k. span saw.table k) last ∙ sym window.is_span

    no_window : (IsReplayed bounds saw.verdict → ⊥) → (n : ℕ) → IsPairWindowOf bounds line n → ⊥
    no_window none n other = none (same_claim n other).is_replayed

    no_pair : (IsPair saw.verdict → ⊥) → (n : ℕ) → IsPairWindowOf bounds line n → ⊥
    no_pair none n other =
        let verdict = one_verdict line other.table saw.table other.verdict saw.verdict other.of saw.of in
        none (subst IsPair verdict other.pair)

  open_summed : SawOpen old line new cost → IsRecurrenceSummary bounds (lines ++ line ∷ []) new
  open_summed saw = rw saw.same (record {
    clean = clean_more (IsFine bounds) lines before.clean (λ e. (e, fine), λ are. are.0);
    steps = all_more (λ other within. within) lines before.steps
        (λ a b ok. absurd (never_both line ok.table ok.verdict saw.column ok.of saw.of));
    few_steps = before.few_steps;
    cells = IsPeak-past (IsPairWindowOf bounds) before.cells
        (λ n other. never_both line other.table other.verdict saw.column other.of saw.of) refl;
    few_cells = before.few_cells;
    no_levels = before.no_levels;
    no_nodes = before.no_nodes;
  }) where
    fine : IsFine bounds line
    fine = record { said = Refusal saw.column; of = saw.of; fine = tt }

  unread_summed : SawUnread old line new cost → IsRecurrenceSummary bounds (lines ++ line ∷ []) new
  unread_summed saw = record {
    clean = clean_more (IsFine bounds) lines before.clean (
      λ e. (let wrong = sym saw.clean ∙ e in cc),
      λ are. absurd (saw.no_line are.1.said are.1.of),
    );
    steps = rw saw.peak (all_more (λ other within. within) lines before.steps
        (λ a b ok. absurd (saw.no_line (Claim ok.table ok.verdict) ok.of)));
    few_steps = rw saw.peak before.few_steps;
    cells = IsPeak-past (IsPairWindowOf bounds) before.cells
        (λ n other. saw.no_line (Claim other.table other.verdict) other.of)
        (ap (λ (m : Meter). m.most_cells) saw.peak);
    few_cells = rw saw.peak before.few_cells;
    no_levels = rw saw.peak before.no_levels;
    no_nodes = rw saw.peak before.no_nodes;
  }

  line_summed : RecurrenceSaw bounds old line new cost → IsRecurrenceSummary bounds (lines ++ line ∷ []) new
  line_summed (inl saw) = finding_summed saw
  line_summed (inr (inl saw)) = open_summed saw
  line_summed (inr (inr saw)) = unread_summed saw

-- a run that begins with nothing counted is summed up
module _ {D : Type 0} (bounds : D → Bounds) (summary : D → Summary) (cost : D → ℕ) where
  abbrev pub RecurrenceSawOwn : D → List ℕ → D → Type 0
  RecurrenceSawOwn a line b = (bounds b ≡ bounds a) × RecurrenceSaw (bounds a) (summary a) line (summary b) (cost b)

  pub recurrences_summed : (lines : List (List ℕ)) (a b : D) → IsAccepted (bounds a) → summary a ≡ none_seen
      → FoldsTo RecurrenceSawOwn a lines b → IsRecurrenceSummary (bounds a) lines (summary b)
  recurrences_summed lines a b accepted begin folds =
      (chained_keeps RecurrenceSawOwn (λ past d. (bounds d ≡ bounds a)
      × IsRecurrenceSummary (bounds a) past (summary d)) more lines a b (refl, rw begin none) folds).1
    where
      none : IsRecurrenceSummary (bounds a) [] none_seen
      none = record {
        clean = (λ e. tt, λ all. refl);
        steps = tt;
        few_steps = omega arith;
        cells = record { bound = tt; reached = inl refl };
        few_cells = omega arith;
        no_levels = refl;
        no_nodes = refl;
      }

      more : (past : List (List ℕ)) (d : D) (line : List ℕ) (e : D)
          → (bounds d ≡ bounds a) × IsRecurrenceSummary (bounds a) past (summary d) → RecurrenceSawOwn d line e
          → (bounds e ≡ bounds a) × IsRecurrenceSummary (bounds a) (past ++ line ∷ []) (summary e)
      more past d line e before saw = (
        saw.0 ∙ before.0,
        line_summed (bounds a) accepted past line (summary d) (summary e) (cost e) before.1
            (rw (← before.0) saw.1),
      )
