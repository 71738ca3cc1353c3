-- What the search for records that agree has found, step by step.
use Rattle.std.proofs.Common.{◌≡◌, ℕ, ◌+◌, ◌≤◌, Option, Some, None, ℤ, pos, FitsSigned, w64, refl}
use Rattle.std.proofs.Common.{arith, of_z, to_z}
use Rattle.std.proofs.lemmas.Int.{to_z-of_z}
use Rattle.bb_machine.specs.declared.entry.Next.TheVariants.{Halt}
use Rattle.bb_machine.specs.Limits.{Bounds}
use Rattle.bb_machine.specs.Machine.{Table}
use Rattle.bb_tape.specs.TapeView.{IsSound, TapeView}
use Rattle.bb_sim.specs.declared.meter.Meter.{Meter}
use Rattle.bb_sim.specs.declared.runner.Runner.{Runner}
use Rattle.bb_sim.specs.CellsBetween.{cells_between}
use Rattle.bb_sim.specs.Runner.{Stands, high_of, low_of, position_of, state_of, steps_of}
use Rattle.bb_sim.specs.declared.runner.Moved.{Moved}
use Rattle.bb_sim.specs.Span.{Inside}
use Rattle.bb_sim.proofs.Facts.{count_is_within}
use Rattle.bb_cert.specs.declared.records.Records.{Records}
use Rattle.bb_cert.specs.records.Follow.{TellsWidening, passed}
use Rattle.bb_cert.specs.declared.verdict.Side.{Side}
use Rattle.bb_cert.specs.declared.verdict.Side.TheVariants.{L, R}
use Rattle.bb_cert.specs.declared.verdict.Verdict.{Verdict}
use Rattle.bb_cert.specs.records.Agree.{AgreeingRecords}
use Rattle.bb_cert.specs.verdict.Verdict.{HasNumbers}
use Rattle.bb_cert.proofs.Facts.{MakesJust, agreeing_records_never_halt, makes_just, record_takes_steps}
use Rattle.bb_cert.proofs.Facts.{records_in_order, starts}
use Rattle.bb_decide.proofs.Halting.{no_pair_in_Z}
use Rattle.bb_decide.specs.Translation.{AgreesWithPartner, FindsTranslation, HasNoTranslation, IsTranslation}
use Rattle.bb_decide.specs.inside.Follow.{IsReady, IsSearched, ComparesRecord}
use Rattle.bb_decide.specs.inside.Follow.{on_side}
pub use Rattle.bb_decide.specs.inside.Searching.{AreSearched, IsInRecordSearch}
use Rattle.bb_decide.specs.inside.Step.{EndsRun, HasMoved, TakesOver}
use Rattle.bb_decide.proofs.Counted.{taken_over}
use Rattle.bb_decide.proofs.SearchResults.{IsFound}
use Rattle.bb_decide.proofs.OneSide.{GoesOn, HasPassed, TellsAgreement, searched_at_first, side_ends}
use Rattle.bb_decide.proofs.OneSide.{side_goes_on}
use Rattle.bb_decide.proofs.OneSide.{side_passes_by, side_ready}
use Rattle.bb_decide.proofs.SoFar.{none_earlier, none_inside, none_so_far}

-- step 0 makes no record
pub none_at_first : (table : Table) (bounds : Bounds) (side : Side) (a b : ℕ) → b ≤ 0
    → IsTranslation table bounds side a b → ⊥
none_at_first table bounds side a b few found =
    let made = found.pair.second_record in
    omega (arith, few, record_takes_steps table side found.pair.second_number b made, made.positive)

-- a record that agrees with its partner is one of two that agree
pub pair_agrees : (table : Table) (side : Side) (a b : ℕ) → AgreesWithPartner table side a b
    → AgreeingRecords table side a b
pair_agrees table side a b pair = record {
  in_order = (records_in_order table side pair.first_number pair.second_number a b pair.first_record
      pair.second_record).0 pair.partner.below;
  first_number = pair.first_number;
  second_number = pair.second_number;
  first_record = pair.first_record;
  second_record = pair.second_record;
  agree = pair.agree;
}

-- in Z no record agrees with an earlier one
pub no_pair_at_end : (table : Table) (runner : Runner) (run : TapeView) → Stands table runner run
    → state_of runner ≡ Halt → (side : Side) (a : ℕ) → AgreesWithPartner table side a (steps_of runner) → ⊥
no_pair_at_end table runner run stands halts side a pair =
    let agreeing = pair_agrees table side a (steps_of runner) pair in
    let agree = agreeing.agree in
    no_pair_in_Z table runner run stands halts a agree.first agree.second agreeing.in_order agree.at_first
    agree.at_second agree.same_state

-- and none that step n makes agrees with its partner
abbrev pub HasPassedBoth : Table → ℕ → Records → Records → TapeView → TapeView → Type 0
HasPassedBoth table n right left saved_right saved_left =
    AreSearched table n right left saved_right saved_left
    × ((side : Side) (a : ℕ) → AgreesWithPartner table side a n → ⊥)

pub searching_at_first : {table : Table} {bounds : Bounds} {runner : Runner}
    {view saved_right saved_left : TapeView} {right left : Records} → Stands table runner view
    → steps_of runner ≡ 0 → right ≡ record { side = R; kept = runner; nearest = pos 0 }
    → left ≡ record { side = L; kept = runner; nearest = pos 0 }
    → IsInRecordSearch table bounds runner view right left saved_right saved_left
searching_at_first {table} {bounds} {runner} {view} stands zero right_is left_is =
    let start = starts table runner view stands zero in
    rw (right_is, left_is) (record {
      stands = stands;
      within = omega (arith, zero);
      searched = record {
        on_right = rw zero (searched_at_first table _ _ start);
        on_left = rw zero (searched_at_first table _ _ start);
        right_is = refl;
        left_is = refl;
      };
      none = rw zero (none_at_first table bounds);
    })

-- both sides have taken in a step, which makes a record of the side that it widens
pub record IsTakenIn (table : Table) (n : ℕ) (after : Runner) (view : TapeView) (right left : Records)
    (saved_right saved_left : TapeView) (widened : Option Side) : Type 0 where
  pub on_right : HasPassed table n R after view saved_right right
  pub on_left : HasPassed table n L after view saved_left left
  pub makes : MakesJust table (n + 1) widened

module _ {table : Table} {before after : Runner} {view saved_right saved_left : TapeView}
    {old_right old_left : Records}
    (here : AreSearched table (steps_of before) old_right old_left saved_right saved_left)
    (moved : HasMoved table before after view) where
  on : {side : Side} {old : Records} {saved : TapeView} → IsSearched table (steps_of before) old saved
      → old.side ≡ side → {new : Records} {p : ℤ} → FitsSigned w64 p → p ≡ position_of after
      → new ≡ passed old (to_z w64 (of_z w64 p))
      → HasPassed table (steps_of before) side after view saved new
  on {side} {old} searched side_is fits at passes = record {
    old = old;
    searched = searched;
    side_is = side_is;
    stands = moved.stands;
    next = moved.next;
    new_is = rw at at (simp to_z-of_z at passes);
  }

  pub takes_in : {cells : ℕ} → cells ≡ cells_between (low_of before) (high_of before)
      → (widened : Option Side) → TellsWidening after cells widened
      → {right left : Records} {p q : ℤ} → FitsSigned w64 p → p ≡ position_of after
      → right ≡ passed old_right (to_z w64 (of_z w64 p)) → FitsSigned w64 q → q ≡ position_of after
      → left ≡ passed old_left (to_z w64 (of_z w64 q))
      → IsTakenIn table (steps_of before) after view right left saved_right saved_left widened
  takes_in were widened widens p_fits p_at right_is q_fits q_at left_is = record {
    on_right = on here.on_right here.right_is p_fits p_at right_is;
    on_left = on here.on_left here.left_is q_fits q_at left_is;
    makes = makes_just moved.stood moved.stands moved.next moved.running were widened widens;
  }

-- what is known of both sides then
looked : {table : Table} (runner : Runner) {right left : Records} {saved_right saved_left : TapeView}
    → GoesOn table (steps_of runner) R right saved_right → GoesOn table (steps_of runner) L left saved_left
    → HasPassedBoth table (steps_of runner) right left saved_right saved_left
looked {table} runner on_right on_left = (assumption, none_now) where
  none_now : (side : Side) (a : ℕ) → AgreesWithPartner table side a (steps_of runner) → ⊥
  none_now R a pair = on_right.none a pair
  none_now L a pair = on_left.none a pair

module _ {table : Table} {n : ℕ} {after : Runner} {view saved_right saved_left : TapeView}
    {right left : Records} {widened : Option Side}
    (taken : IsTakenIn table n after view right left saved_right saved_left widened) where
  -- a step that makes no record
  pub looks_at_none : widened ≡ None
      → HasPassedBoth table (steps_of after) right left saved_right saved_left
  looks_at_none is =
      let makes = rw is at taken.makes in
      looked after (side_passes_by taken.on_right (makes R)) (side_passes_by taken.on_left (makes L))

  -- one that makes a record of a side, which can be compared with the kept one
  pub is_ready : (side : Side) → widened ≡ Some side → IsSound view
      → IsReady (on_side side right left) after (on_side side saved_right saved_left) view
  is_ready R is sound = side_ready taken.on_right (rw is at taken.makes).0 sound
  is_ready L is sound = side_ready taken.on_left (rw is at taken.makes).0 sound

  module _ (new_right new_left : Records) (new_saved_right new_saved_left : TapeView) where
    -- the two agree
    pub tells_pair : (side : Side) → widened ≡ Some side → (verdict : Verdict)
        → ComparesRecord side after view right left saved_right saved_left new_right new_left new_saved_right
        new_saved_left (Some verdict) → TellsAgreement table (steps_of after) verdict
    tells_pair R is verdict looks =
        side_ends taken.on_right (rw is at taken.makes).0 new_right new_saved_right verdict looks.0
    tells_pair L is verdict looks =
        side_ends taken.on_left (rw is at taken.makes).0 new_left new_saved_left verdict looks.0

    -- or not
    pub looks_at_one : (side : Side) → widened ≡ Some side
        → ComparesRecord side after view right left saved_right saved_left new_right new_left new_saved_right
        new_saved_left None
        → HasPassedBoth table (steps_of after) new_right new_left new_saved_right new_saved_left
    looks_at_one R is looks =
        let makes = rw is at taken.makes in
        looked after (side_goes_on taken.on_right makes.0 new_right new_saved_right looks.0 looks.1)
        (rw (looks.2, looks.3) (side_passes_by taken.on_left makes.1))
    looks_at_one L is looks =
        let makes = rw is at taken.makes in
        looked after (rw (looks.2, looks.3) (side_passes_by taken.on_right makes.1))
        (side_goes_on taken.on_left makes.0 new_left new_saved_left looks.0 looks.1)

-- the search, after a step
module _ {table : Table} {bounds : Bounds} {before after : Runner}
    {view_before view saved_right saved_left : TapeView} {old_right old_left : Records}
    (here : IsInRecordSearch table bounds before view_before old_right old_left saved_right saved_left)
    (moved : HasMoved table before after view) (inside : Inside table bounds (steps_of after)) where
  pub goes_on : {right left : Records} {new_right new_left : TapeView}
      → HasPassedBoth table (steps_of after) right left new_right new_left
      → IsInRecordSearch table bounds after view right left new_right new_left
  goes_on looks = record {
    stands = moved.stands;
    within = inside.within_steps;
    searched = looks.0;
    none = λ side a. none_so_far (IsTranslation table bounds side a) moved.next (here.none side a) (λ now.
        looks.1 side a now.pair);
  }

  -- the record that was made agrees with its partner, as the first that does
  pub is_found : {verdict : Verdict} {first meter : Meter}
      → TellsAgreement table (steps_of after) verdict × HasNumbers verdict × TakesOver after first meter
      → IsFound (FindsTranslation table bounds) table bounds first meter verdict
  is_found {first = first} {meter = meter} looks =
      let end = looks.0 in
      let agree = pair_agrees table end.side end.first (steps_of after) end.pair in
      let counts = taken_over moved.stands first looks.2 in
      rw end.is (record {
        found = (
          record {
            translation = record { pair = end.pair; inside = inside };
            first = λ other c d found.
                none_earlier (IsTranslation table bounds other c) moved.next (here.none other c) d found;
          },
          end.lies,
        );
        counted = counts;
        within = count_is_within table bounds (steps_of after) first meter inside counts;
        never = agreeing_records_never_halt table end.side end.first (steps_of after) agree;
        claim = (agree, end.lies);
        numbers = rw end.is at looks.1;
      })

pub none_at_end : {table : Table} {bounds : Bounds} {before after : Runner}
    {view_before view saved_right saved_left : TapeView} {right left : Records} {first meter : Meter}
    {answer : Moved}
    → IsInRecordSearch table bounds before view_before right left saved_right saved_left
    → EndsRun table bounds before after view first meter answer → HasNoTranslation table bounds
none_at_end {table} {bounds} {after = after} {view = view} here ended side a b found =
    none_inside (IsTranslation table bounds side a) ended (here.none side a) (λ halts now.
    no_pair_at_end table after view ended.stands halts side a now.pair) b found.inside found
