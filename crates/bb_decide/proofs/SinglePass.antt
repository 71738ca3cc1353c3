-- What the single-pass run knows of fingerprints, step by step.
use Rattle.std.proofs.Common.{◌≡◌, ◌≢◌, ℕ, suc, ◌+◌, ◌≤◌, inl, inr, Some, ℤ, pos, ◌≤ℤ◌, neg_ℤ, refl, ap}
use Rattle.std.proofs.Common.{sym}
use Rattle.std.proofs.lemmas.Bool.{cases_lt}
use Rattle.std.proofs.Common.{subst, ◌∙◌, FitsSigned, add-one, arith, of_z, to_z, w64}
use Rattle.std.proofs.lemmas.Int.{ints, to_z-of_z}
use Rattle.bb_machine.specs.declared.entry.Next.TheVariants.{Halt}
use Rattle.bb_machine.specs.Limits.{Bounds}
use Rattle.bb_machine.specs.Machine.{Table}
use Rattle.bb_tape.specs.declared.tape.TheConstants.{MAX_CELLS}
use Rattle.bb_tape.specs.Content.{Content, blank, cell, with_cell}
use Rattle.bb_tape.specs.TapeView.{IsInside, IsSound, TapeView}
use Rattle.bb_tape.proofs.Facts.{cell-with_cell-same}
use Rattle.bb_machine.specs.declared.entry.Dir.{Dir}
use Rattle.bb_machine.specs.declared.entry.Dir.TheVariants.{L, R}
use Rattle.bb_sim.specs.Configuration.{Configuration, beside, start}
use Rattle.bb_sim.specs.declared.meter.Meter.{Meter}
use Rattle.bb_sim.specs.declared.runner.Runner.{Runner}
use Rattle.bb_sim.specs.declared.runner.Moved.{Moved}
use Rattle.bb_sim.specs.Run.{conf}
use Rattle.bb_sim.specs.Runner.{Stands, position_of, state_of, steps_of}
use Rattle.bb_sim.specs.Span.{Inside, counted_head}
use Rattle.bb_sim.proofs.Facts.{conf-start, counted_head-at, greatest_bounds}
use Rattle.bb_sim.proofs.Facts.{head_inside, counted_running, least_bounds, small_position}
use Rattle.bb_registers.specs.Registers.{FitsRegisters}
use Rattle.bb_registers.proofs.Facts.{fits_before}
use Rattle.bb_cert.specs.claims.Repeat.{Same}
use Rattle.bb_cert.specs.declared.verdict.Side.{Side}
use Rattle.bb_cert.specs.declared.verdict.Verdict.{Verdict}
use Rattle.bb_cert.proofs.Facts.{alike_of_same, led_by, moves}
use Rattle.bb_decide.specs.Fingerprint.{MatchesPartner, fingerprint}
use Rattle.bb_decide.specs.SinglePassCost.{IsStoppedAt, LooksAgain}
use Rattle.bb_decide.specs.Partner.{IsPartner}
use Rattle.bb_decide.proofs.OneSide.{TellsAgreement}
use Rattle.bb_decide.specs.inside.Fingerprints.{AreAsKept, KeepInTurn, first_fingerprints}
use Rattle.bb_decide.specs.inside.Searching.{IsInSinglePass}
use Rattle.bb_decide.specs.inside.Step.{EndsRun, HasMoved}
use Rattle.bb_decide.specs.declared.single_pass.Fingerprints.{Fingerprints}
use Rattle.bb_decide.specs.Translation.{IsTranslation}
use Rattle.bb_decide.proofs.Cycles as cycles
use Rattle.bb_decide.proofs.Fingerprints.{current-blank}
use Rattle.bb_decide.proofs.Halting.{no_pair_in_Z}
use Rattle.bb_decide.proofs.Partners.{is_kept_one, is_partner}
use Rattle.bb_decide.proofs.SoFar.{none_earlier, none_inside, none_so_far}

abbrev configuration_of : Runner → TapeView → Configuration
configuration_of runner view =
    record { state = state_of runner; head = position_of runner; tape = view.content }

pub single_pass_at_first : (table : Table) (bounds : Bounds) (key : ℤ → ℕ) (runner : Runner) (view : TapeView)
    → Stands table runner view → steps_of runner ≡ 0 → (FitsRegisters table 1 → ⊥)
    → IsInSinglePass table bounds key runner view (first_fingerprints runner)
single_pass_at_first table bounds key runner view stands zero wide =
    let is : configuration_of runner view ≡ start =
    (let at = rw zero at stands.at in let there = conf-start table in cc) in
    let tape : view.content ≡ blank = ap (λ (c : Configuration). c.tape) is in
    let current : 0 ≡ fingerprint key view.content = sym (ap (fingerprint key) tape ∙ current-blank key) in
    record {
      kept_view = view;
      search = cycles.searching_at_first stands zero stands zero;
      current_is = current;
      kept_fingerprint_is = current;
      next = omega (arith, zero);
      none_alike = λ p t few looks. let below = looks.0.partner.below in omega (arith, few, below, zero);
      running = λ halts. let state = ap (λ (c : Configuration). c.state) is in cc;
      wide = λ fits. wide (fits_before (omega (arith, zero)) fits);
    }

-- the head moves at each step
heads_apart : (table : Table) (n : ℕ) (c d : Configuration) → conf table n ≡ Some c
    → conf table (n + 1) ≡ Some d → c.head ≡ d.head → ⊥
heads_apart table n c d at_c at_d same =
    let at_next : conf table (suc n) ≡ Some d = rw (← add-one) at_d in
    let moved = moves table n (record { here = d; exists = at_next }) in
    let led = led_by table moved.before moved.then_here moved.is_next in
    let c_is : moved.before ≡ c = cc in
    let d_is : moved.then_here ≡ d = cc in
    moved_apart led.to c.head (same ∙ ap (λ (e : Configuration). e.head) (sym d_is ∙ led.is)
    ∙ ap (λ (e : Configuration). beside led.to e.head) c_is)
  where
    moved_apart : (to : Dir) (p : ℤ) → p ≡ beside to p → ⊥
    moved_apart L p is = omega (arith, ints, is)
    moved_apart R p is = omega (arith, ints, is)

-- the symbol of a cell fits, and its position is small
pub record IsReadable (view : TapeView) (p : ℤ) : Type 0 where
  pub inside : IsInside view p
  pub low : neg_ℤ (pos MAX_CELLS) ≤ℤ p
  pub high : p ≤ℤ pos MAX_CELLS

pub readable_here : {table : Table} {runner : Runner} {view : TapeView} {p : ℤ} → Stands table runner view
    → state_of runner ≢ Halt → IsSound view → FitsSigned w64 p → p ≡ position_of runner
    → IsReadable view (to_z w64 (of_z w64 p))
readable_here {table} {runner} {view} {p} stands running sound fits at =
    let inside = head_inside table runner view stands running in
    let small = small_position view (position_of runner) sound inside in
    rw (to_z-of_z w64 p fits, at) (record { inside = inside; low = small.0; high = small.1 })

-- after a step of a runner that stood outside Z
module _ {table : Table} {before after : Runner} {view_before view_after : TapeView}
    (stands : Stands table before view_before) (running : state_of before ≢ Halt)
    (moved : HasMoved table before after view_after) where
  -- where it stood is still in the window
  pub still_inside : {p : ℤ} → FitsSigned w64 p → p ≡ position_of before
      → IsInside view_after (to_z w64 (of_z w64 p))
  still_inside {p} fits at =
      let here : counted_head table (steps_of before) ≡ position_of before =
      counted_head-at table (steps_of before) _ stands.at
      ∙ counted_running (state_of before) (position_of before) running in
      let few : steps_of before ≤ steps_of after = omega (arith, moved.next) in
      let below = least_bounds (counted_head table) (steps_of before) (steps_of after) few in
      let above = greatest_bounds (counted_head table) (steps_of before) (steps_of after) few in
      rw (to_z-of_z w64 p fits, at) (omega (arith, ints, moved.stands))

  -- and the tape is as it was but for the cell there
  pub written_there : view_after.content
      ≡ with_cell view_before.content (position_of before) (cell view_after.content (position_of before))
  written_there =
      let at_after : conf table (suc (steps_of before)) ≡ Some (configuration_of after view_after) =
      rw (← add-one, ← moved.next) moved.stands.at in
      let made = moves table (steps_of before) (record { here = _; exists = at_after }) in
      let led = led_by table made.before made.then_here made.is_next in
      let c_is : made.before ≡ configuration_of before view_before = cc in
      let d_is : made.then_here ≡ configuration_of after view_after = cc in
      let led_tape : made.then_here.tape ≡ with_cell made.before.tape made.before.head led.write =
      ap (λ (c : Configuration). c.tape) led.is in
      let tape : view_after.content ≡ with_cell view_before.content (position_of before) led.write =
      sym (ap (λ (c : Configuration). c.tape) d_is) ∙ led_tape
      ∙ ap (λ (c : Configuration). with_cell c.tape c.head led.write) c_is in
      let symbol : cell view_after.content (position_of before) ≡ led.write =
      ap (λ t. cell t (position_of before)) tape
      ∙ cell-with_cell-same view_before.content (position_of before) led.write in
      tape ∙ ap (λ v. with_cell view_before.content (position_of before) v) (sym symbol)

-- a run that has left the registers has left them at the next step too
pub still_wide : {table : Table} {before after : Runner} {view : TapeView}
    → (FitsRegisters table (steps_of before + 1) → ⊥) → HasMoved table before after view
    → FitsRegisters table (steps_of after + 1) → ⊥
still_wide {table} wide moved fits = wide (subst (FitsRegisters table) moved.next (fits_before (omega arith) fits))

-- the fingerprint after the write is that of the new tape
module _ {table : Table} {bounds : Bounds} {key : ℤ → ℕ} {before after : Runner}
    {view_before view_after : TapeView} {old : Fingerprints}
    (here : IsInSinglePass table bounds key before view_before old)
    (moved : HasMoved table before after view_after) where
  pub current_known : {p : ℤ} {old_symbol new_symbol new_fingerprint : ℕ} → FitsSigned w64 p → p ≡ position_of before
      → old_symbol ≡ cell view_before.content (to_z w64 (of_z w64 p))
      → new_symbol ≡ cell view_after.content (to_z w64 (of_z w64 p))
      → ((tape : Content) → old.current ≡ fingerprint key tape → cell tape (to_z w64 (of_z w64 p)) ≡ old_symbol
      → new_fingerprint ≡ fingerprint key (with_cell tape (to_z w64 (of_z w64 p)) new_symbol))
      → new_fingerprint ≡ fingerprint key view_after.content
  current_known {p} fits at was now tells =
      let written = sym (written_there here.search.stands here.running moved) in
      tells view_before.content here.current_is (sym was)
      ∙ ap (fingerprint key) (rw (now, to_z-of_z w64 p fits, at) written)

module _ {table : Table} {bounds : Bounds} {key : ℤ → ℕ} {before after : Runner}
    {view_before view_after : TapeView} {old printed : Fingerprints}
    (here : IsInSinglePass table bounds key before view_before old)
    (moved : HasMoved table before after view_after) (inside : Inside table bounds (steps_of after))
    (stays : printed ≡ record old { current = printed.current })
    (current_is : printed.current ≡ fingerprint key view_after.content)
  where
    kept_same : printed.kept ≡ old.kept
    kept_same = ap (λ (p : Fingerprints). p.kept) stays

    kept_fingerprint_same : printed.kept_fingerprint ≡ old.kept_fingerprint
    kept_fingerprint_same = ap (λ (p : Fingerprints). p.kept_fingerprint) stays

    -- where state, position or fingerprint differ from the kept ones, so do the configurations
    apart : (AreAsKept printed after → ⊥) → Same table (steps_of old.kept) (steps_of after) → ⊥
    apart differs same =
        let alike = alike_of_same moved.stands here.search.kept_stands same in
        differs (
          current_is ∙ ap (fingerprint key) alike.2 ∙ sym here.kept_fingerprint_is ∙ sym kept_fingerprint_same,
          alike.0 ∙ ap state_of (sym kept_same),
          alike.1 ∙ ap position_of (sym kept_same),
        )

    kept_is_partner : position_of old.kept ≡ position_of after
        → IsPartner (steps_of old.kept) (steps_of after)
    kept_is_partner head = is_partner here.search.partner moved.next (λ zeroth.
        let kept_at = rw zeroth at here.search.kept_stands.at in
        let after_at = rw moved.next at moved.stands.at in
        heads_apart table (steps_of before) _ _ kept_at after_at head)

    as_kept : MatchesPartner key table (steps_of old.kept) (steps_of after) → AreAsKept printed after
    as_kept looks =
        let one : looks.one ≡ configuration_of old.kept here.kept_view = cc in
        let other : looks.other ≡ configuration_of after view_after = cc in (
          current_is ∙ sym (ap (λ (c : Configuration). fingerprint key c.tape) other) ∙ sym looks.current
              ∙ ap (λ (c : Configuration). fingerprint key c.tape) one ∙ sym here.kept_fingerprint_is
              ∙ sym kept_fingerprint_same,
          sym (ap (λ (c : Configuration). c.state) other) ∙ sym looks.state
              ∙ ap (λ (c : Configuration). c.state) one ∙ ap state_of (sym kept_same),
          sym (ap (λ (c : Configuration). c.head) other) ∙ sym looks.head
              ∙ ap (λ (c : Configuration). c.head) one ∙ ap position_of (sym kept_same),
        )

    -- where they differ, no step up to this one looks as its partner does
    pub none_alike_next : (AreAsKept printed after → ⊥) → (p t : ℕ) → t ≤ steps_of after
        → LooksAgain key table p t → ⊥
    none_alike_next differs p = none_so_far (LooksAgain key table p) moved.next (here.none_alike p) (λ now.
        differs (as_kept (subst (λ m. MatchesPartner key table m (steps_of after))
        (is_kept_one here.search.partner moved.next now.0.partner) now.0)))

    -- it has left the registers
    pub wide_here : FitsRegisters table (steps_of after) → ⊥
    wide_here fits = here.wide (subst (FitsRegisters table) moved.next fits)

    -- and the configuration is kept in its turn
    pub single_pass_on : {new : Fingerprints} → (AreAsKept printed after → ⊥) → KeepInTurn after printed new
        → IsInSinglePass table bounds key after view_after new
    single_pass_on differs (inl stays_kept) =
        let same_next = ap (λ (p : Fingerprints). p.next) stays in
        rw (stays_kept.1, stays) (record {
          kept_view = here.kept_view;
          search = cycles.goes_on here.search moved inside (apart differs)
              (omega (arith, here.next, same_next, stays_kept.0));
          current_is = current_is;
          kept_fingerprint_is = here.kept_fingerprint_is;
          next = here.next;
          none_alike = none_alike_next differs;
          running = moved.running;
          wide = still_wide here.wide moved;
        })
    single_pass_on differs (inr kept) =
        let same_next = ap (λ (p : Fingerprints). p.next) stays in
        rw kept.1 (record {
          kept_view = view_after;
          search = cycles.keeps_this here.search moved inside (apart differs)
              (omega (arith, here.next, same_next, kept.0)) moved.stands;
          current_is = current_is;
          kept_fingerprint_is = current_is;
          next = refl;
          none_alike = none_alike_next differs;
          running = moved.running;
          wide = still_wide here.wide moved;
        })

    -- where they are the same, the run is stopped: what is kept is the partner, since the head moves at step
    -- 1
    pub stopped : ((side : Side) (a b : ℕ) → b ≤ steps_of before → IsTranslation table bounds side a b → ⊥)
        → AreAsKept printed after → IsStoppedAt key table bounds (steps_of after)
    stopped none same = record {
      partner = steps_of old.kept;
      alike = record {
        partner = kept_is_partner head_same;
        one = configuration_of old.kept here.kept_view;
        other = configuration_of after view_after;
        at_partner = here.search.kept_stands.at;
        at_step = moved.stands.at;
        state = sym (same.1 ∙ ap state_of kept_same);
        head = head_same;
        current = sym here.kept_fingerprint_is ∙ sym kept_fingerprint_same ∙ sym same.0 ∙ current_is;
      };
      wide = wide_here;
      inside = inside;
      first = λ p t looks. none_earlier (LooksAgain key table p) moved.next (here.none_alike p) t looks;
      no_cycle = λ a t less. let next = moved.next in here.search.none a t (omega (arith, next, less));
      no_record = λ side a b less. let next = moved.next in none side a b (omega (arith, next, less));
    } where
      head_same : position_of old.kept ≡ position_of after
      head_same = sym (same.2 ∙ ap position_of kept_same)

    -- it isn't where the record that the step makes agrees with its partner
    pub not_stopped_at_record : (AreAsKept printed after → ⊥) → {verdict : Verdict}
        → TellsAgreement table (steps_of after) verdict → (n : ℕ) → IsStoppedAt key table bounds n → ⊥
    not_stopped_at_record differs tells n at = elim (cases_lt (steps_of after) n) [
      | inl less ↦ at.no_record tells.side tells.first (steps_of after) less
          (record { pair = tells.pair; inside = inside })
      | inr few ↦ none_alike_next differs at.partner n few (at.alike, at.wide)
    ]

-- nor was it where the run ends
pub not_stopped_at_end : {table : Table} {bounds : Bounds} {key : ℤ → ℕ} {before after : Runner}
    {view_before view : TapeView} {old : Fingerprints} {first meter : Meter} {answer : Moved}
    → IsInSinglePass table bounds key before view_before old
    → EndsRun table bounds before after view first meter answer
    → (n : ℕ) → IsStoppedAt key table bounds n → ⊥
not_stopped_at_end {table} {key = key} {after = after} {view = view} here ended n at =
    none_inside (LooksAgain key table at.partner) ended (here.none_alike at.partner) (λ halts looks.
    no_pair_in_Z table after view ended.stands halts at.partner looks.0.one looks.0.other looks.0.partner.below
    looks.0.at_partner looks.0.at_step looks.0.state) n at.inside (at.alike, at.wide)
