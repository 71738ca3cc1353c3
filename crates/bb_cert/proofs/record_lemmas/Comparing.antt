-- A record that was just made, and the kept one: when they agree.
use Rattle.std.proofs.Common.{◌≡◌, ℕ, ◌<◌, ◌≤◌, inl, inr, ℤ, pos, ◌+ℤ◌, ◌-ℤ◌, ◌≤ℤ◌, refl, ap, sym, subst, ◌∙◌}
use Rattle.std.proofs.Common.{arith}
use Rattle.std.specs.Prelude.{◌≢◌}
use Rattle.std.proofs.lemmas.Bool.{cases_lt}
use Rattle.std.proofs.lemmas.Int.{clamps, ints}
use Rattle.bb_machine.specs.declared.entry.Next.TheVariants.{Halt}
use Rattle.bb_machine.specs.Machine.{Table}
use Rattle.bb_tape.specs.Content.{Content, cell}
use Rattle.bb_tape.specs.TapeView.{TapeView, IsInside, IsSound, visited}
use Rattle.bb_sim.specs.declared.runner.Runner.{Runner}
use Rattle.bb_sim.specs.Configuration.{Configuration}
use Rattle.bb_sim.specs.Laws.{IsRunningAt}
use Rattle.bb_sim.specs.Runner.{Stands, position_of, state_of, steps_of}
use Rattle.bb_sim.specs.Span.{counted_head, least, greatest}
use Rattle.bb_cert.specs.declared.records.Records.{Records}
use Rattle.bb_cert.specs.declared.verdict.Extent.{Extent}
use Rattle.bb_cert.specs.declared.verdict.Side.{Side}
use Rattle.bb_cert.specs.records.Agree.{Agree}
use Rattle.bb_cert.specs.inside.Checks.{KeepsStep, MakesRecord}
use Rattle.bb_cert.specs.records.Follow.{AgreesWithKept, IsComparable, IsFollowed, IsKeptInStateOf}
use Rattle.bb_cert.specs.records.Follow.{IsKeptRecord}
use Rattle.bb_cert.specs.verdict.Extent.{IsExtent}
use Rattle.bb_cert.specs.records.Follow.{IsNarrow, IsTop, LiesAs, IsWidened, nearest_out, number_of, top_of}
use Rattle.bb_cert.specs.records.Follow.{with_kept}
use Rattle.bb_cert.specs.records.Record.{out, head_at, IsRecord}
use Rattle.bb_cert.proofs.record_lemmas.Heads.{out-out, runs_before, runs_up_to, head_in_window, far-here}
use Rattle.bb_cert.proofs.record_lemmas.Heads.{far_bounds}
use Rattle.bb_cert.proofs.record_lemmas.Heads.{far_is_reached}
use Rattle.bb_cert.proofs.record_lemmas.Positions.{head_at-is, one_number, out-zero}
use Rattle.bb_cert.proofs.record_lemmas.Records.{short_of_record, stands_on}
use Rattle.bb_cert.proofs.record_lemmas.Stretches.{narrow_inside, seen_wider}

-- positions that are as far out are the same
out_same : (side : Side) (p q : ℤ) → out side p ≡ out side q → p ≡ q
out_same side p q is = sym (out-out side p) ∙ ap (out side) is ∙ out-out side q

at_zero : (side : Side) (p : ℤ) → out side p ≡ pos 0 → p ≡ pos 0
at_zero side p is = out_same side p (pos 0) (is ∙ sym (out-zero side))

-- a kept record has a number
pub numbered_at : (table : Table) (records : Records) (saved : TapeView) (n : ℕ)
    (followed : IsFollowed table n records saved) → position_of records.kept ≢ pos 0 → 0 < followed.number
numbered_at table records saved n followed apart = elim (cases_lt 0 followed.number) [
  | inl some ↦ some
  | inr none ↦ absurd (apart (at_zero records.side _ (followed.number_is ∙ ap pos (omega (arith, none)))))
]

-- where a runner stands, on this content
abbrev stood : Runner → Content → Configuration
stood runner content = record { state = state_of runner; head = position_of runner; tape = content }

-- the last record is as far out as the head ever was
top_here : (table : Table) (side : Side) (n j : ℕ) (top : ℤ) → IsTop table side n top
    → IsRecord table side j n → out side (head_at table n) ≡ top
top_here table side n j top is made = elim (cases_lt is.step n) [
  | inl before ↦
      let short = short_of_record table side j n made is.step before in
      let high = is.bounds n (omega arith) in
      absurd (omega (arith, ints, is.reached, short, stands_on table side j n made, high))
  | inr here ↦ let same : is.step ≡ n = omega (arith, is.no_later, here) in
      subst (λ k. out side (head_at table k) ≡ top) same is.reached
]

module _ (table : Table) (runner : Runner) (run saved : TapeView) (records : Records)
    (stands : Stands table runner run)
    (followed : IsFollowed table (steps_of runner) records saved)
    (made : MakesRecord table records.side (steps_of runner)) where
  -- the window of the run, by what was seen
  in_window : (p : ℤ) → (least (counted_head table) (steps_of runner) ≤ℤ p)
      × (p ≤ℤ greatest (counted_head table) (steps_of runner)) → IsInside run p
  in_window p between = omega (arith, ints, stands, between)

  here_is : head_at table (steps_of runner) ≡ position_of runner
  here_is = head_at-is table (steps_of runner) _ stands.at

  runs_here : state_of runner ≢ Halt → IsRunningAt table (steps_of runner) (head_at table (steps_of runner))
  runs_here runs = record { here = _; exists = stands.at; runs = runs; at = sym here_is }

  head_inside : state_of runner ≢ Halt → (m : ℕ) → m ≤ steps_of runner → IsInside run (head_at table m)
  head_inside runs m few =
      in_window (head_at table m) (head_in_window table m (steps_of runner) few
      (runs_up_to table m (steps_of runner) few (runs_here runs)))

  top_out : out records.side (head_at table (steps_of runner)) ≡ top_of records runner
  top_out = ap (out records.side) here_is

  pub count_is : top_of records runner ≡ pos followed.count
  count_is = sym top_out ∙ top_here table records.side (steps_of runner) made.0 _ followed.top made.1

  number_is : made.0 ≡ followed.count
  number_is = one_number made.0 followed.count (top_of records runner)
      (sym top_out ∙ stands_on table records.side made.0 (steps_of runner) made.1) count_is

  pub kept_here : 0 < followed.count → IsKeptRecord table records.side followed.count (steps_of runner) runner
      (top_of records runner) run
  kept_here some = record {
    made = subst (λ j. IsRecord table records.side j (steps_of runner)) number_is made.1;
    before = omega arith;
    at = stands.at;
    far_is = sym top_out ∙ sym (far-here table records.side (steps_of runner));
    low = omega (arith, ints, stands);
    high = omega (arith, ints, stands);
    seen = λ runs. subst (IsInside run) here_is (head_inside runs (steps_of runner) (omega arith));
  }

  -- it is kept, in what the run has now
  abbrev pub keeps : IsFollowed table (steps_of runner) (with_kept records runner) run
  keeps = record {
    count = followed.count;
    number = followed.count;
    number_is = count_is;
    top = followed.top;
    kept = kept_here;
  }

  pub keeps_step : (new : Records) → new ≡ with_kept records runner → KeepsStep table (steps_of runner) new
  keeps_step new is = rw is (record {
    made = λ some none.
        let at = stands_on table records.side made.0 (steps_of runner) made.1 in
        let zero = ap (out records.side) none ∙ out-zero records.side in
        omega (arith, ints, (made.1).positive, top_out, at, zero);
    at = λ some. refl;
  })

  wider_kept : 0 < followed.number → IsInside run records.nearest
      → IsKeptRecord table records.side followed.number (steps_of runner) records.kept (nearest_out records)
      (visited saved records.nearest)
  wider_kept some inside = let old = followed.kept some in record {
    made = old.made;
    before = old.before;
    at = old.at;
    far_is = old.far_is;
    low = omega (arith, ints, clamps, old.low, stands, inside);
    high = omega (arith, ints, clamps, old.high, stands, inside);
    seen = λ runs. seen_wider saved _ _ (old.seen runs);
  }

  pub kept_wider : (new : TapeView) → IsWidened records run saved new → 0 < followed.number
      → IsKeptRecord table records.side followed.number (steps_of runner) records.kept (nearest_out records)
      new
  kept_wider new (inl same) some = rw same (followed.kept some)
  kept_wider new (inr wider) some = rw wider.0 (wider_kept some wider.1)

  -- else the kept one stays, in what was saved of it, which may have been widened
  abbrev pub stays : (new : TapeView) → IsWidened records run saved new
      → IsFollowed table (steps_of runner) records new
  stays new widened = record {
    count = followed.count;
    number = followed.number;
    number_is = followed.number_is;
    top = followed.top;
    kept = kept_wider new widened;
  }

  module _ (some : 0 < followed.number) where
    kept : IsKeptRecord table records.side followed.number (steps_of runner) records.kept
        (nearest_out records) saved
    kept = followed.kept some

    kept_is : head_at table (steps_of records.kept) ≡ position_of records.kept
    kept_is = head_at-is table (steps_of records.kept) _ kept.at

    number_out : out records.side (head_at table (steps_of records.kept)) ≡ number_of records
    number_out = ap (out records.side) kept_is

    are_comparable : state_of runner ≢ Halt → state_of records.kept ≢ Halt
        → IsComparable records runner saved run
    are_comparable runs kept_runs =
        let reached = far_is_reached table records.side (steps_of records.kept)
        (steps_of runner) kept.before in
        let below = far_bounds table records.side (steps_of records.kept) (steps_of runner) kept.before in
        let above = followed.top.bounds (steps_of records.kept) kept.before in
        record {
          low = omega (arith, ints, stands, kept.low);
          high = omega (arith, ints, stands, kept.high);
          order = omega (arith, ints, kept.far_is, number_out, below);
          later = omega (arith, ints, count_is, number_out, above);
          far_seen = subst (IsInside run) (out_same records.side _ _ (sym (kept.far_is ∙ reached.is)))
              (head_inside runs reached.step reached.no_later);
          top_seen = subst (IsInside run) here_is (head_inside runs (steps_of runner) (omega arith));
          number_saved = kept.seen kept_runs;
        }

    -- how they lie is their extent
    pub extent_of_records : (extent : Extent) → LiesAs records runner extent
        → IsExtent table records.side (steps_of records.kept) (steps_of runner) extent
    extent_of_records extent lies = record {
      shift = lies.shift ∙ ap (λ t. t -ℤ number_of records) (sym top_out)
          ∙ ap (λ n. out records.side (head_at table (steps_of runner)) -ℤ n) (sym number_out);
      length = lies.length ∙ ap (λ n. (n -ℤ nearest_out records) +ℤ pos 1) (sym number_out)
          ∙ ap (λ f. (out records.side (head_at table (steps_of records.kept)) -ℤ f) +ℤ pos 1) kept.far_is;
    }

    -- the cells that were compared are those of two records that agree
    pub agree_of_cells : AgreesWithKept records runner saved run
        → Agree table records.side (steps_of records.kept) (steps_of runner)
    agree_of_cells both = record {
      first = _;
      second = _;
      at_first = kept.at;
      at_second = stands.at;
      same_state = both.0.1;
      same_cells = λ x low high. both.1 x (subst (λ f. f ≤ℤ out records.side x) (sym kept.far_is) low) high;
    }

    module _ (less : steps_of records.kept < steps_of runner) where
      runs_at_kept : IsRunningAt table (steps_of records.kept) (head_at table (steps_of records.kept))
      runs_at_kept = runs_before table (steps_of records.kept) (steps_of runner) less
          (record { here = _; exists = stands.at })

      kept_runs : state_of records.kept ≢ Halt
      kept_runs =
          let runs = runs_at_kept in
          let same : runs.here ≡ stood records.kept saved.content = cc (runs.exists, kept.at) in
          λ halts. runs.runs (ap (λ (c : Configuration). c.state) same ∙ halts)

      -- its number is that of a position that was visited
      pub kept_narrow : IsSound run → IsNarrow (position_of records.kept)
      kept_narrow sound = narrow_inside sound (subst (IsInside run) kept_is
          (in_window _ (head_in_window table (steps_of records.kept) (steps_of runner) kept.before
          runs_at_kept)))

      pub cells_of_agree : Agree table records.side (steps_of records.kept) (steps_of runner)
          → AgreesWithKept records runner saved run
      cells_of_agree agree =
          let one : agree.first ≡ stood records.kept saved.content = cc (agree.at_first, kept.at) in
          let two : agree.second ≡ stood runner run.content = cc in (
            (
              λ none. let zero = ap (out records.side) none ∙ out-zero records.side in
                  omega (arith, ints, followed.number_is, some, zero),
              sym (ap (λ (c : Configuration). c.state) one) ∙ agree.same_state
                  ∙ ap (λ (c : Configuration). c.state) two,
              kept_runs,
            ),
            λ x low high.
                let head = ap (λ (c : Configuration). c.head) one in
                let there = ap (λ (c : Configuration). c.head) two in
                sym (ap (λ (c : Configuration). cell c.tape x) one)
                ∙ agree.same_cells x (subst (λ f. f ≤ℤ out records.side x) kept.far_is low)
                (subst (λ n. out records.side x ≤ℤ n) (sym (ap (out records.side) head)) high)
                ∙ ap (λ (c : Configuration). cell c.tape (x +ℤ (agree.second.head -ℤ agree.first.head))) two
                ∙ ap (λ h. cell run.content (x +ℤ (h -ℤ agree.first.head))) there
                ∙ ap (λ h. cell run.content (x +ℤ (position_of runner -ℤ h))) head,
          )

  -- where one is kept, in the state of the last one, there is a number
  pub numbered : IsKeptInStateOf records runner → 0 < followed.number
  numbered kept_there = numbered_at table records saved (steps_of runner) followed kept_there.0

  pub comparable : IsKeptInStateOf records runner → IsComparable records runner saved run
  comparable kept_there = are_comparable (numbered kept_there)
      (λ halts. kept_there.2 (kept_there.1 ∙ halts)) kept_there.2

  -- the kept record, made before this step, is at a position that was visited
  pub number_narrow : ((some : 0 < followed.number) → steps_of records.kept < steps_of runner)
      → IsSound run → IsNarrow (position_of records.kept)
  number_narrow less sound = elim (cases_lt 0 followed.number) [
    | inl some ↦ kept_narrow some (less some) sound
    | inr none ↦
        omega (arith, ints, at_zero records.side _ (followed.number_is ∙ ap pos (omega (arith, none))))
  ]
