-- The single-pass run in registers, over runners, records and views that are in the proof alone.
use Rattle.std.proofs.Common.{◌≡◌, ◌≢◌, ℕ, ◌-◌, ◌*◌, ◌%◌, ◌^◌, ◌<◌, ◌≤◌, inl, inr, Option, Some, None}
use Rattle.std.proofs.Common.{ℤ, pos, ◌+ℤ◌, ◌-ℤ◌, ◌≤ℤ◌, refl, ap, sym, subst, ◌∙◌, arith, w64, FitsSigned}
use Rattle.std.specs.Prelude.{◌↔◌}
use Rattle.std.specs.Int.{bit_at}
use Rattle.std.proofs.lemmas.Int.{by_lt_z, clamps, ints, to_z-of_z}
use Rattle.std.proofs.lemmas.Nat.Bits.{bit_at-lt, same_from_bits_below}
use Rattle.bb_machine.specs.declared.entry.Next.TheVariants.{Halt}
use Rattle.bb_machine.specs.Limits.{Bounds}
use Rattle.bb_machine.specs.Machine.{IsMachine, Table}
use Rattle.bb_tape.specs.TapeView.{TapeView, IsInside}
use Rattle.bb_sim.specs.declared.runner.Runner.{Runner}
use Rattle.bb_sim.specs.declared.simulation.Outcome.{Outcome}
use Rattle.bb_sim.specs.CellsBetween.{cells_between}
use Rattle.bb_sim.specs.Runner.{high_of, low_of, position_of, state_of, steps_of}
use Rattle.bb_sim.specs.Span.{Inside}
use Rattle.bb_sim.proofs.Facts.{cells_between-is, head_inside}
use Rattle.bb_cert.specs.claims.Repeat.{Same}
use Rattle.bb_cert.specs.declared.records.Records.{Records}
use Rattle.bb_cert.specs.declared.verdict.Side.{Side}
use Rattle.bb_cert.specs.declared.verdict.Side.TheVariants.{L, R}
use Rattle.bb_cert.specs.declared.verdict.Verdict.{Verdict}
use Rattle.bb_cert.specs.declared.verdict.Verdict.TheVariants.{Cycler}
use Rattle.bb_cert.specs.records.Follow.{TellsWidening, passed}
use Rattle.bb_cert.proofs.Facts.{AreAlike, alike_of_same, same_of_alike, same_registers, starts}
use Rattle.bb_decide.specs.Cycle.{FindsCycle, HasNoCycle, IsCycle}
use Rattle.bb_decide.specs.Fingerprint.{named_step}
use Rattle.bb_decide.specs.Translation.{FindsTranslation, HasNoTranslation, IsTranslation}
use Rattle.bb_decide.specs.inside.Step.{HasMoved}
use Rattle.bb_decide.proofs.Cycles as cycles
use Rattle.bb_decide.proofs.Halting.{no_pair_in_Z, not_in_Z}
use Rattle.bb_decide.proofs.OneSide.{TellsAgreement}
use Rattle.bb_decide.proofs.SoFar.{none_earlier, none_so_far}
use Rattle.bb_decide.proofs.Translations as records
use Rattle.bb_registers.specs.declared.blocks.Barrier.{Barrier}
use Rattle.bb_registers.specs.declared.run.RegisterRun.{RegisterRun}
use Rattle.bb_machine.specs.declared.packed.PackedTable.{PackedTable}
use Rattle.bb_machine.specs.Packed.{IsTableOf}
use Rattle.bb_registers.specs.Registers.{EndsWith, ContinuesTo, IsRegisterRun, IsSameConfiguration, MatchesWindow}
use Rattle.bb_registers.proofs.Facts.{at_bit, bit_of}
use Rattle.bb_registers.proofs.Facts.{block_of, by_bit, steps_in_window, with_block}
use Rattle.bb_decide.specs.declared.register_records.RegisterRecords.{RegisterRecords}
use Rattle.bb_decide.specs.declared.register_pass.KeptRun.{KeptRun}
use Rattle.bb_decide.specs.inside.RegisterRecords.{CanCompareRecord, HasCompared, KeepsRecord, nearer_bit}
use Rattle.bb_decide.specs.inside.RegisterPass.{IsPassIn, KeepsRunInTurn}
use Rattle.bb_decide.specs.inside.Sprints.{GoesOn, SprintsTo, Stays}
use Rattle.bb_decide.specs.declared.sprint.Sprint.{Sprint}
use Rattle.bb_decide.proofs.RegisterCells.{keeps_passed, small_fits}

pub register_pass_at_first : {table : Table} {bounds : Bounds} {run : RegisterRun} → IsRegisterRun table bounds run → run.steps ≡ 0
    → (kept : KeptRun) → kept ≡ record { run = run; before_next = 0 } → (right left : RegisterRecords)
    → right ≡ record { kept = run; nearest = run.registers.head }
    → left ≡ record { kept = run; nearest = run.registers.head } → IsPassIn table bounds run kept right left
register_pass_at_first {table} {bounds} {run} is_run zero kept kept_is right left right_is left_is =
    let none : steps_of is_run.runner ≡ 0 = sym is_run.steps_is ∙ zero in
    let start : position_of is_run.runner ≡ pos 0 = starts table is_run.runner is_run.view is_run.stands none in
    let first : (side : Side) → KeepsRecord table bounds side (record { kept = run; nearest = run.registers.head })
    (record { side = side; kept = is_run.runner; nearest = pos 0 }) is_run.view = λ side. record {
      is_run = is_run;
      kept = refl;
      saved_is = refl;
      side_is = refl;
      place = is_run.at.place;
      within = is_run.at.within;
      nearest = is_run.at.head;
      nearest_is = sym start ∙ is_run.at.position;
    } in
    rw (kept_is, right_is, left_is) (record {
      is_run = is_run;
      kept_is_run = is_run;
      search = cycles.searching_at_first is_run.stands none is_run.stands none;
      before_next = omega (arith, zero);
      right_records = _;
      left_records = _;
      saved_right = is_run.view;
      saved_left = is_run.view;
      follows = records.searching_at_first is_run.stands none refl refl;
      keeps_right = first R;
      keeps_left = first L;
    })

-- two windows with the same bits
low_same : (window new room new_room : ℕ) (old view : TapeView) → MatchesWindow window room old → MatchesWindow new new_room view
    → new ≡ window → view.low ≤ℤ old.low → view.low ≤ℤ view.high → view.low ≡ old.low
low_same window new room new_room old view was is same wider order =
    let b = bit_of view.low is.low_in_word in
    let there : at_bit b.0 ≡ view.low = omega (arith, ints, b.2) in
    let set : bit_at new b.0 ≡ 1 = (is.bits b.0 b.1).1 (omega (arith, ints, there), omega (arith, ints, there, order)) in
    let inside = (was.bits b.0 b.1).0 (ap (λ n. bit_at n b.0) (sym same) ∙ set) in
    omega (arith, ints, there, inside.0, wider)

high_same : (window new room new_room : ℕ) (old view : TapeView) → MatchesWindow window room old → MatchesWindow new new_room view
    → new ≡ window → old.high ≤ℤ view.high → view.low ≤ℤ view.high → view.high ≡ old.high
high_same window new room new_room old view was is same wider order =
    let b = bit_of view.high is.high_in_word in
    let there : at_bit b.0 ≡ view.high = omega (arith, ints, b.2) in
    let set : bit_at new b.0 ≡ 1 = (is.bits b.0 b.1).1 (omega (arith, ints, there, order), omega (arith, ints, there)) in
    let inside = (was.bits b.0 b.1).0 (ap (λ n. bit_at n b.0) (sym same) ∙ set) in
    omega (arith, ints, there, inside.1, wider)

-- the same window has the same bits
same_window : (window new room new_room : ℕ) (old view : TapeView) → MatchesWindow window room old → MatchesWindow new new_room view
    → window < 2 ^ 64 → new < 2 ^ 64 → view.low ≡ old.low → view.high ≡ old.high → new ≡ window
same_window window new room new_room old view was is p q low high =
    same_from_bits_below 64 new window q p (λ i h.
    elim (by_bit (bit_at new i) (bit_at-lt new i)) [
      | inr set ↦
          let inside = (is.bits i h).0 set in
          set ∙ sym ((was.bits i h).1 (rw (← low) inside.0, rw (← high) inside.1))
      | inl clear ↦
          elim (by_bit (bit_at window i) (bit_at-lt window i)) [
            | inl also ↦ clear ∙ sym also
            | inr set ↦
                let inside = (was.bits i h).0 set in
                let there = (is.bits i h).1 (rw low inside.0, rw high inside.1) in
                absurd (omega (arith, clear, there))
          ]
    ])

-- what is kept for the cycles
record Searches (table : Table) (bounds : Bounds) (runner : Runner) (view : TapeView) (kept : KeptRun) : Type 0 where
  kept_is_run : IsRegisterRun table bounds kept.run
  search : cycles.IsInCycleSearch table bounds runner kept_is_run.runner view kept_is_run.view
  before_next : kept.before_next ≡ 2 * kept.run.steps - 1

-- ---- the end
module _ {table : Table} {bounds : Bounds} {run : RegisterRun} {kept : KeptRun} {right left : RegisterRecords}
    (here : IsPassIn table bounds run kept right left) {outcome : Outcome} (ended : EndsWith here.is_run outcome) where
  none_inside : (P : ℕ → Type 0) → ((t : ℕ) → t ≤ steps_of here.is_run.runner → P t → ⊥)
      → (state_of ended.runner ≡ Halt → P (steps_of ended.runner) → ⊥) → (t : ℕ) → Inside table bounds t → P t → ⊥
  none_inside P before in_Z t inside holds =
      let few = ended.last.greatest t inside in
      elim ended.no_further [
        | inl stayed ↦ before t (omega (arith, few, stayed)) holds
        | inr halts ↦ none_so_far P halts.1 before (in_Z halts.0) t few holds
      ]

  pub ends_unfound : HasNoCycle table bounds × HasNoTranslation table bounds
  ends_unfound = (
    λ a t cycle. none_inside (IsCycle table bounds a) (here.search.none a) (λ halts now.
        no_pair_in_Z table ended.runner ended.view ended.stands halts a now.same.here now.same.here now.partner.below
        now.same.at_first now.same.at_second refl) t cycle.inside cycle,
    λ side a b found. none_inside (IsTranslation table bounds side a) (here.follows.none side a) (λ halts now.
        records.no_pair_at_end table ended.runner ended.view ended.stands halts side a now.pair) b found.inside found,
  )

-- ---- a step
module _ {table : Table} {bounds : Bounds} {run new : RegisterRun} {kept : KeptRun} {right left : RegisterRecords}
    (here : IsPassIn table bounds run kept right left) (made : ContinuesTo here.is_run new) where
  abbrev before : IsRegisterRun table bounds run
  before = here.is_run

  abbrev after : IsRegisterRun table bounds new
  after = made.next

  pub moved : HasMoved table before.runner after.runner after.view
  moved = record {
    view_before = before.view;
    stood = before.stands;
    stands = after.stands;
    next = made.steps;
    running = not_in_Z after.at.state_is;
  }

  -- ---- the window
  low_was : before.view.low ≡ low_of before.runner
  low_was = before.stands.window_low

  wider_low : after.view.low ≤ℤ before.view.low
  wider_low = omega (arith, ints, clamps, made.low)

  wider_high : before.view.high ≤ℤ after.view.high
  wider_high = omega (arith, ints, clamps, made.high)

  in_order : after.view.low ≤ℤ after.view.high
  in_order = omega (arith, ints, after.sound.from_zero, after.sound.to_zero)

  cells : ℕ
  cells = cells_between (low_of before.runner) (high_of before.runner)

  cells_is : pos cells ≡ (before.view.high -ℤ before.view.low) +ℤ pos 1
  unfolding cells
  cells_is =
      let ordered : before.view.low ≤ℤ before.view.high = omega (arith, ints, before.sound.from_zero, before.sound.to_zero) in
      let n = cells_between-is (low_of before.runner) (high_of before.runner)
      (omega (arith, ints, before.stands.window_low, before.stands.window_high, ordered)) in
      omega (arith, ints, n, before.stands.window_low, before.stands.window_high)

  cells_are : pos (cells_between (low_of after.runner) (high_of after.runner)) ≡ (after.view.high -ℤ after.view.low) +ℤ pos 1
  cells_are =
      let n = cells_between-is (low_of after.runner) (high_of after.runner)
      (omega (arith, ints, after.stands.window_low, after.stands.window_high, in_order)) in
      omega (arith, ints, n, after.stands.window_low, after.stands.window_high)

  none_widened : new.window ≡ run.window → TellsWidening after.runner cells None
  none_widened same =
      let low = low_same run.window new.window run.room new.room before.view after.view before.window_is after.window_is same
      wider_low in_order in
      let high = high_same run.window new.window run.room new.room before.view after.view before.window_is after.window_is same
      wider_high in_order in
      omega (arith, ints, low, high, cells_is, cells_are)

  grows : run.window < 2 ^ 64 → new.window < 2 ^ 64 → new.window ≢ run.window
      → cells_between (low_of after.runner) (high_of after.runner) ≢ cells
  grows p q differ e =
      let low : after.view.low ≡ before.view.low = omega (arith, ints, wider_low, wider_high, cells_is, cells_are, e) in
      let high : after.view.high ≡ before.view.high = omega (arith, ints, wider_low, wider_high, cells_is, cells_are, e) in
      differ (same_window run.window new.window run.room new.room before.view after.view before.window_is after.window_is p q low
      high)

  stood_inside : IsInside before.view (position_of before.runner)
  stood_inside = head_inside table before.runner before.view before.stands (not_in_Z before.at.state_is)

  right_widened : run.window < 2 ^ 64 → new.window < 2 ^ 64 → new.window ≢ run.window → bit_at new.registers.entry 7 ≡ 1
      → TellsWidening after.runner cells (Some R)
  right_widened p q differ one = (
    grows p q differ,
    λ e.
        let there = made.right one in
        omega (arith, ints, clamps, e, there, made.low, after.stands.window_low, stood_inside.0),
  )

  left_widened : run.window < 2 ^ 64 → new.window < 2 ^ 64 → new.window ≢ run.window → (bit_at new.registers.entry 7 ≡ 1 → ⊥)
      → TellsWidening after.runner cells (Some L)
  left_widened p q differ other =
      let there = made.left other in
      let more = grows p q differ in (
        more,
        by_lt_z (position_of after.runner) before.view.low
            (λ below. omega (arith, ints, clamps, below, made.low, after.stands.window_low))
            (λ from. absurd (more (omega (
              arith,
              ints,
              clamps,
              from,
              there,
              made.low,
              made.high,
              stood_inside.1,
              cells_is,
              cells_are,
            )))),
      )

  -- ---- both sides take the step in
  here_is : ℤ
  here_is = position_of after.runner

  small : FitsSigned w64 (position_of after.runner)
  small = small_fits (position_of after.runner) (omega (arith, ints, after.at.position))
      (omega (arith, ints, after.at.position, after.at.within))

  abbrev passed_right : Records
  passed_right = passed here.right_records (position_of after.runner)

  abbrev passed_left : Records
  passed_left = passed here.left_records (position_of after.runner)

  taken : (widened : Option Side) → TellsWidening after.runner cells widened
      → records.IsTakenIn table (steps_of before.runner) after.runner after.view passed_right passed_left
      here.saved_right here.saved_left widened
  unfolding cells
  taken widened tells =
      let p = position_of after.runner in
      let same = to_z-of_z w64 p small in
      records.takes_in here.follows.searched moved refl widened tells {p = p} {q = p} small refl
      (ap (passed here.right_records) (sym same)) small refl (ap (passed here.left_records) (sym same))

  searches_on : (next_kept : KeptRun) → KeepsRunInTurn new kept next_kept
      → (Same table (steps_of here.kept_is_run.runner) (steps_of after.runner) → ⊥)
      → Searches table bounds after.runner after.view next_kept
  searches_on next_kept (inl stays) differs =
      let kept_steps = here.kept_is_run.steps_is in
      let is : Searches table bounds after.runner after.view kept = record {
        kept_is_run = here.kept_is_run;
        search = cycles.goes_on here.search moved made.inside differs
            (omega (arith, stays.0, here.before_next, kept_steps, after.steps_is));
        before_next = here.before_next;
      } in
      subst (Searches table bounds after.runner after.view) (sym stays.1) is
  searches_on next_kept (inr turn) differs =
      let kept_steps = here.kept_is_run.steps_is in
      let is : Searches table bounds after.runner after.view (record { run = new; before_next = 2 * new.steps - 1 }) = record {
        kept_is_run = after;
        search = cycles.keeps_this here.search moved made.inside differs
            (omega (arith, turn.0, here.before_next, kept_steps, after.steps_is)) after.stands;
        before_next = refl;
      } in
      subst (Searches table bounds after.runner after.view) (sym turn.1) is

  -- ---- the configuration is the kept one, or not
  module _ (p : new.registers.bits < 2 ^ 64) (q : kept.run.registers.bits < 2 ^ 64) where
    alike : IsSameConfiguration new.registers kept.run.registers
        ↔ AreAlike after.runner after.view here.kept_is_run.runner here.kept_is_run.view
    alike = same_registers after.at here.kept_is_run.at p q

    pub finds_cycle : IsSameConfiguration new.registers kept.run.registers
        → FindsCycle table bounds (Some (Cycler kept.run.steps new.steps))
    finds_cycle same =
        let again = same_of_alike after.stands here.kept_is_run.stands (alike.0 same) in
        rw (here.kept_is_run.steps_is, after.steps_is) (cycles.first_cycle here.search moved made.inside again)

    pub not_again : (IsSameConfiguration new.registers kept.run.registers → ⊥)
        → Same table (steps_of here.kept_is_run.runner) (steps_of after.runner) → ⊥
    not_again differ same = differ (alike.1 (alike_of_same after.stands here.kept_is_run.stands same))

  -- ---- the record agrees with its partner
  abbrev FindsRecords : Verdict → Type 0
  FindsRecords verdict = FindsTranslation table bounds (Some verdict) × (named_step bounds verdict ≡ new.steps)

  pub finds_records : (verdict : Verdict) → TellsAgreement table (steps_of after.runner) verdict
      → FindsRecords verdict
  finds_records verdict tells = (
    rw tells.is (
      record {
        translation = record { pair = tells.pair; inside = made.inside };
        first = λ other c d found.
            none_earlier (IsTranslation table bounds other c) made.steps (here.follows.none other c) d found;
      },
      tells.lies,
    ),
    ap (named_step bounds) tells.is ∙ sym after.steps_is,
  )

  module _ (next_right next_left : RegisterRecords)
      (right_is : next_right ≡ record right { nearest = nearer_bit R right.nearest new.registers.head })
      (left_is : next_left ≡ record left { nearest = nearer_bit L left.nearest new.registers.head }) where
    keeps_right : KeepsRecord table bounds R next_right passed_right here.saved_right
    keeps_right = keeps_passed R here.keeps_right new.registers.head after.at.place after.at.within after.at.head
        (position_of after.runner) after.at.position next_right right_is

    keeps_left : KeepsRecord table bounds L next_left passed_left here.saved_left
    keeps_left = keeps_passed L here.keeps_left new.registers.head after.at.place after.at.within after.at.head
        (position_of after.runner) after.at.position next_left left_is

    -- ---- what is kept for the cycles
    module _ (next_kept : KeptRun) (keeps : KeepsRunInTurn new kept next_kept)
        (differs : Same table (steps_of here.kept_is_run.runner) (steps_of after.runner) → ⊥) where
      searches : Searches table bounds after.runner after.view next_kept
      searches = searches_on next_kept keeps differs

      -- no record was made
      pub register_pass_on : new.window ≡ run.window → IsPassIn table bounds new next_kept next_right next_left
      register_pass_on same =
          let s = searches in
          record {
            is_run = after;
            kept_is_run = s.kept_is_run;
            search = s.search;
            before_next = s.before_next;
            right_records = passed_right;
            left_records = passed_left;
            saved_right = here.saved_right;
            saved_left = here.saved_left;
            follows = records.goes_on here.follows moved made.inside
                (records.looks_at_none (taken None (none_widened same)) refl);
            keeps_right = keeps_right;
            keeps_left = keeps_left;
          }

      -- ---- a record was made
      module _ (p : run.window < 2 ^ 64) (q : new.window < 2 ^ 64) (differ : new.window ≢ run.window) where
        module _ (one : bit_at new.registers.entry 7 ≡ 1) where
          taken_right : records.IsTakenIn table (steps_of before.runner) after.runner after.view passed_right
              passed_left here.saved_right here.saved_left (Some R)
          taken_right = taken (Some R) (right_widened p q differ one)

          pub can_compare_right : CanCompareRecord table bounds R next_right new
          can_compare_right = record {
            records = passed_right;
            saved = here.saved_right;
            keeps = keeps_right;
            is_run = after;
            ready = records.is_ready taken_right R refl after.sound;
          }

          pub finds_right : (compared_new : RegisterRecords) (verdict : Verdict) → HasCompared can_compare_right compared_new (Some verdict)
              → FindsRecords verdict
          unfolding can_compare_right
          finds_right compared_new verdict has =
              finds_records verdict
              (records.tells_pair taken_right has.records passed_left has.saved here.saved_left R refl verdict (
                has.compared,
                has.keeps.side_is ∙ sym keeps_right.side_is,
                refl,
                refl,
              ))

          pub register_pass_on_right : (compared_new : RegisterRecords) → HasCompared can_compare_right compared_new None
              → IsPassIn table bounds new next_kept compared_new next_left
          unfolding can_compare_right
          register_pass_on_right compared_new has =
              let s = searches in
              record {
                is_run = after;
                kept_is_run = s.kept_is_run;
                search = s.search;
                before_next = s.before_next;
                right_records = has.records;
                left_records = passed_left;
                saved_right = has.saved;
                saved_left = here.saved_left;
                follows = records.goes_on here.follows moved made.inside
                    (records.looks_at_one taken_right has.records passed_left has.saved here.saved_left R refl (
                      has.compared,
                      has.keeps.side_is ∙ sym keeps_right.side_is,
                      refl,
                      refl,
                    ));
                keeps_right = has.keeps;
                keeps_left = keeps_left;
              }

        module _ (other : bit_at new.registers.entry 7 ≡ 1 → ⊥) where
          taken_left : records.IsTakenIn table (steps_of before.runner) after.runner after.view passed_right
              passed_left here.saved_right here.saved_left (Some L)
          taken_left = taken (Some L) (left_widened p q differ other)

          pub can_compare_left : CanCompareRecord table bounds L next_left new
          can_compare_left = record {
            records = passed_left;
            saved = here.saved_left;
            keeps = keeps_left;
            is_run = after;
            ready = records.is_ready taken_left L refl after.sound;
          }

          pub finds_left : (compared_new : RegisterRecords) (verdict : Verdict) → HasCompared can_compare_left compared_new (Some verdict)
              → FindsRecords verdict
          unfolding can_compare_left
          finds_left compared_new verdict has =
              finds_records verdict
              (records.tells_pair taken_left passed_right has.records here.saved_right has.saved L refl verdict (
                has.compared,
                has.keeps.side_is ∙ sym keeps_left.side_is,
                refl,
                refl,
              ))

          pub register_pass_on_left : (compared_new : RegisterRecords) → HasCompared can_compare_left compared_new None
              → IsPassIn table bounds new next_kept next_right compared_new
          unfolding can_compare_left
          register_pass_on_left compared_new has =
              let s = searches in
              record {
                is_run = after;
                kept_is_run = s.kept_is_run;
                search = s.search;
                before_next = s.before_next;
                right_records = passed_right;
                left_records = has.records;
                saved_right = here.saved_right;
                saved_left = has.saved;
                follows = records.goes_on here.follows moved made.inside
                    (records.looks_at_one taken_left passed_right has.records here.saved_right has.saved L refl (
                      has.compared,
                      has.keeps.side_is ∙ sym keeps_left.side_is,
                      refl,
                      refl,
                    ));
                keeps_right = keeps_right;
                keeps_left = has.keeps;
              }

-- ---- steps in the window, before the barrier of what is kept
module _ {table : Table} {bounds : Bounds} {run : RegisterRun} {kept : KeptRun} {right left : RegisterRecords}
    {packed : PackedTable} {barrier : Barrier} (machine : IsMachine table) (is_table : IsTableOf table packed)
    (begins : IsPassIn table bounds run kept right left) (window : barrier.window ≡ run.window)
    (few : barrier.to ≤ bounds.steps) (before : barrier.to ≤ kept.before_next)
    (head : barrier.head ≡ kept.run.registers.head) (entry : barrier.entry ≡ kept.run.registers.entry % 64) where
  abbrev pub sprint_of : Sprint
  sprint_of = record { run = block_of run; least = right.nearest; greatest = left.nearest }

  pub sprint_in_window : {new : Sprint} → SprintsTo packed barrier sprint_of new
      → IsPassIn table bounds (with_block run new.run) kept (record right { nearest = new.least })
      (record left { nearest = new.greatest })
  sprint_in_window Stays = begins
  sprint_in_window (GoesOn middle next so_far on) =
      let known = sprint_in_window so_far in
      let step = on.step in
      let made = steps_in_window machine is_table known.is_run step window few in
      register_pass_on known made _ _ (ap (λ n. record right { nearest = n }) on.least)
      (ap (λ n. record left { nearest = n }) on.greatest) kept
      (inl (omega (arith, step.before, step.steps, before), refl))
      (not_again known made made.next.at.fits known.kept_is_run.at.fits
      (λ same. step.apart (same.1 ∙ sym head) (same.2 ∙ sym entry))) refl
