-- A course whose record is kept, and compared with a later one.
use Rattle.std.proofs.Common.{◌≡◌, ℕ, ◌<◌, ℤ, pos, IsTrue, Bool, Some, true, false, refl, sym}
use Rattle.std.proofs.Common.{subst, ap, ◌∙◌}
use Rattle.std.specs.Prelude.{MatchBool}
use Rattle.bb_machine.specs.declared.entry.Next.{Next}
use Rattle.bb_machine.specs.Limits.{Bounds}
use Rattle.bb_machine.specs.Machine.{Table}
use Rattle.bb_tape.specs.Content.{Content}
use Rattle.bb_tape.specs.TapeView.{TapeView}
use Rattle.bb_sim.specs.declared.runner.Runner.{Runner}
use Rattle.bb_sim.specs.Run.{conf}
use Rattle.bb_sim.specs.Span.{counted_head, greatest, least}
use Rattle.bb_sim.specs.Configuration.{Configuration}
use Rattle.bb_sim.specs.Laws.{IsRunningAt}
use Rattle.bb_sim.specs.Runner.{Stands, position_of, state_of, steps_of}
use Rattle.bb_cert.specs.declared.checker.replay.ReplayState.{ReplayState}
use Rattle.bb_cert.specs.declared.records.Records.{Records}
use Rattle.bb_cert.specs.declared.verdict.Extent.{Extent}
use Rattle.bb_cert.specs.declared.verdict.Side.{Side}
use Rattle.bb_cert.specs.checker.Course.{IsRunnerAt}
use Rattle.bb_cert.specs.declared.checker.run.Run.{Run}
use Rattle.bb_cert.specs.declared.checker.run.Run.TheVariants.{InRegisters, OnTape}
use Rattle.bb_cert.specs.inside.Runs.{IsKeptOnAll, IsViewAt, StandsSaved, StandsThere, made_of, saved_steps}
use Rattle.bb_cert.specs.records.Agree.{AgreeingRecords}
use Rattle.bb_cert.specs.inside.Checks.{GoesOn, IsReplay, KeepsStep, MakesRecord}
use Rattle.bb_cert.specs.inside.RegisterChecks.{IsFollowedFromStart, IsKeptAt, IsKeptUpTo}
use Rattle.bb_cert.specs.verdict.Extent.{IsExtent}
use Rattle.bb_cert.specs.records.Follow.{AgreesWithKept, IsComparable, IsKeptInStateOf, LiesAs, with_kept}
use Rattle.bb_cert.specs.records.Record.{IsRecord, head_at}
use Rattle.bb_cert.proofs.record_lemmas.Comparing.{agree_of_cells, cells_of_agree, comparable}
use Rattle.bb_cert.proofs.record_lemmas.Comparing.{extent_of_records, keeps}
use Rattle.bb_cert.proofs.record_lemmas.Comparing.{keeps_step}
use Rattle.bb_cert.proofs.record_lemmas.Comparing.{numbered, numbered_at}
use Rattle.bb_cert.proofs.record_lemmas.ReplayStates.{replay_at_first, keeps_on}
use Rattle.bb_cert.proofs.record_lemmas.Heads.{runs_before}
use Rattle.bb_cert.proofs.record_lemmas.Positions.{head_at-is, starts}

-- the course after its record, if the last step makes one, was kept
abbrev pub Keeps : Runner → ReplayState → ReplayState → Type 0
Keeps runner old new = MatchBool old.is_record
    (new ≡ record old { records = with_kept old.records runner }) (new ≡ old)

-- records that agree are made outside Z
runs_at_pair : (table : Table) (side : Side) (a b : ℕ) → AgreeingRecords table side a b
    → IsRunningAt table a (head_at table a) × IsRunningAt table b (head_at table b)
runs_at_pair table side a b pair = (
  before,
  record {
    here = pair.agree.second;
    exists = pair.agree.at_second;
    runs = λ halts.
        let same : before.here ≡ pair.agree.first = cc (before.exists, pair.agree.at_first) in
        before.runs (ap (λ (c : Configuration). c.state) same ∙ pair.agree.same_state ∙ halts);
    at = sym (head_at-is table b pair.agree.second pair.agree.at_second);
  },
) where
  before : IsRunningAt table a (head_at table a)
  before = runs_before table a b pair.in_order (record { here = _; exists = pair.agree.at_second })

-- the record that the last step makes, if it makes one, is kept, and none was before
kept_now : (table : Table) (runner : Runner) (run : TapeView) (old new : ReplayState) → Stands table runner run
    → IsReplay table (steps_of runner) old run → position_of old.records.kept ≡ pos 0
    → Keeps runner old new → IsKeptAt table old.records.side (steps_of runner) new run
kept_now table runner run old new stands replay zeroth kept = by_claimed old.is_record refl kept where
  by_claimed : (claimed : Bool) → old.is_record ≡ claimed
      → MatchBool claimed (new ≡ record old { records = with_kept old.records runner }) (new ≡ old)
      → IsKeptAt table old.records.side (steps_of runner) new run
  by_claimed true makes is = rw is (
      let made = (replay.claimed.0 makes).0 in
      record {
        known = record {
          followed = keeps table runner run run old.records stands replay.followed made;
          claimed = replay.claimed;
        };
        keeps = keeps_step table runner run run old.records stands replay.followed made _ refl;
        side_is = refl;
      })
  by_claimed false none is = rw is (record {
    known = replay;
    keeps = record {
      made = λ made. let makes = replay.claimed.1 made in absurd cc;
      at = λ some. absurd (some zeroth);
    };
    side_is = refl;
  })

-- at the start nothing is kept
pub followed_from_start : {table : Table} {side : Side} {start : Runner} {begun : TapeView} {none : Records}
    → Stands table start begun → steps_of start ≡ 0
    → none ≡ record { side = side; kept = start; nearest = pos 0 }
    → IsFollowedFromStart table side (steps_of start) (record { records = none; is_record = false })
followed_from_start {table} {side} {start} {begun} {none} stands zero is =
    let zeroth = ap (λ (r : Records). position_of r.kept) is ∙ starts table start begun stands zero in
    record {
      known = λ saved. rw zero (replay_at_first table _ saved zeroth refl);
      none_kept = zeroth;
      side_is = ap (λ (r : Records). r.side) is;
    }

pub follows_on : {table : Table} {side : Side} {a b : ℕ} {old new : ReplayState} → IsFollowedFromStart table side a old
    → GoesOn table a b old new → IsFollowedFromStart table side b new
follows_on from goes = record {
  known = λ saved. goes.replay saved (from.known saved);
  none_kept = ap position_of goes.same.kept ∙ from.none_kept;
  side_is = goes.same.side ∙ from.side_is;
}

-- followed up to the step where the runner stands, and kept there
pub kept_there : {table : Table} {side : Side} {step : ℕ} {runner : Runner} {run : TapeView}
    {old new : ReplayState} → IsFollowedFromStart table side step old → Stands table runner run
    → steps_of runner ≡ step → Keeps runner old new → IsKeptAt table side step new run
kept_there {table} {side} {step} {runner} {run} {old} {new} known stands at keep =
    let kept = kept_now table runner run old new stands (subst (λ n. IsReplay table n old run) (sym at) (known.known run))
    known.none_kept keep in
    rw (at, known.side_is) at kept

-- a runner stands at the second step of a pair, and the record that the first makes is kept
pub record IsPairRun (table : Table) (side : Side) (first second : ℕ) (replay : ReplayState)
    (runner : Runner) (run saved : TapeView) : Type 0 where
  pub kept : IsKeptUpTo table side first second replay saved
  pub stands : Stands table runner run
  pub at : steps_of runner ≡ second
  pub order : first < second

module _ {table : Table} {side : Side} {first second : ℕ} {replay : ReplayState}
    {runner : Runner} {run saved : TapeView}
    (is : IsPairRun table side first second replay runner run saved) where
  known_on : IsReplay table (steps_of runner) replay saved
  known_on = subst (λ n. IsReplay table n replay saved) (sym is.at) (is.kept.goes.replay saved is.kept.kept.known)

  keeps_first : KeepsStep table first replay.records
  keeps_first = keeps_on table first is.kept.old.records replay.records is.kept.goes.same is.kept.kept.keeps

  same_side : replay.records.side ≡ side
  same_side = is.kept.goes.same.side ∙ is.kept.kept.side_is

  less : first < steps_of runner
  less = rw is.at is.order

  pub comparable_at : IsTrue replay.is_record → IsKeptInStateOf replay.records runner
      → IsComparable replay.records runner saved run
  comparable_at makes =
      comparable table runner run saved replay.records is.stands known_on.followed (known_on.claimed.0 makes).0

  -- the second makes a record, which agrees with the kept one
  module _ (makes : IsTrue replay.is_record) (both : AgreesWithKept replay.records runner saved run) where
    made : MakesRecord table replay.records.side (steps_of runner)
    made = (known_on.claimed.0 makes).0

    some : 0 < known_on.followed.number
    some = numbered table runner run saved replay.records is.stands known_on.followed made both.0

    at : steps_of replay.records.kept ≡ first
    at = keeps_first.at both.0.0

    -- how the two lie is their extent
    pub extent_at : {found : Extent} → LiesAs replay.records runner found
        → IsExtent table side first second found
    extent_at lies = rw (sym same_side, sym at, sym is.at) (extent_of_records table runner run saved
        replay.records is.stands known_on.followed made some _ lies)

    pub pair_at : AgreeingRecords table side first second
    pair_at = rw (sym same_side, sym is.at) (record {
      in_order = less;
      first_number = known_on.followed.number;
      second_number = made.0;
      first_record = subst (IsRecord table replay.records.side known_on.followed.number) at
          (known_on.followed.kept some).made;
      second_record = made.1;
      agree = rw (sym at)
          (agree_of_cells table runner run saved replay.records is.stands known_on.followed made some both);
    })

  -- where they agree, that was seen
  pub no_pair_at : (IsTrue replay.is_record → AgreesWithKept replay.records runner saved run → ⊥)
      → AgreeingRecords table side first second → ⊥
  no_pair_at none agreeing =
      let pair : AgreeingRecords table replay.records.side first (steps_of runner) =
      rw (same_side, is.at) agreeing in
      let runs = runs_at_pair table replay.records.side first (steps_of runner) pair in
      let apart = keeps_first.made ((pair.first_number, pair.first_record), runs.0) in
      let at = keeps_first.at apart in
      none (known_on.claimed.1 ((pair.second_number, pair.second_record), runs.1))
      (cells_of_agree table runner run saved replay.records is.stands known_on.followed
      (pair.second_number, pair.second_record)
      (numbered_at table replay.records saved (steps_of runner) known_on.followed apart)
      (rw at less) (rw at pair.agree))

-- a step that makes no record isn't the second of a pair
pub no_record : (table : Table) (bounds : Bounds) (replay : ReplayState) (run : Run) (tape saved : TapeView)
    → StandsThere table bounds run tape → StandsSaved table bounds run saved → saved_steps run < made_of run
    → IsKeptOnAll table replay.records.side (saved_steps run) (made_of run) replay
    → (IsTrue replay.is_record → ⊥)
    → AgreeingRecords table replay.records.side (saved_steps run) (made_of run) → ⊥
no_record table bounds replay (InRegisters active before) tape saved one other order kept none =
    let here : IsViewAt table before.steps other.view =
    record { runner = other.runner; stands = other.stands; at = sym other.steps_is } in
    let is : IsPairRun table replay.records.side before.steps active.run.steps replay one.runner one.view other.view =
    record { kept = kept other.view here; stands = one.stands; at = sym one.steps_is; order = order } in
    no_pair_at is (λ makes. absurd (none makes))
no_record table bounds replay (OnTape runner before) tape saved one other order kept none =
    let here : IsViewAt table (steps_of before) saved = record { runner = before; stands = other; at = refl } in
    let is : IsPairRun table replay.records.side (steps_of before) (steps_of runner) replay runner tape saved =
    record { kept = kept saved here; stands = one; at = refl; order = order } in
    no_pair_at is (λ makes. absurd (none makes))

abbrev placed : Next → ℤ → Content → Configuration
placed state head tape = record { state = state; head = head; tape = tape }

-- a runner stands where another does at the same step
pub stands_there : {table : Table} {n : ℕ} {runner : Runner} {view : TapeView} → IsRunnerAt table n runner
    → IsViewAt table n view → Stands table runner view
stands_there {table} {n} {runner} {view} one other =
    let steps : steps_of runner ≡ steps_of other.runner = one.at ∙ sym other.at in
    let here = one.stands.at in
    let there = subst (λ k. conf table k ≡ Some (record {
      state = state_of other.runner;
      head = position_of other.runner;
      tape = view.content;
    })) (sym steps) other.stands.at in
    let one_place : placed (state_of runner) (position_of runner) one.view.content
    ≡ placed (state_of other.runner) (position_of other.runner) view.content = cc in
    let content : one.view.content ≡ view.content = ap (λ (c : Configuration). c.tape) one_place in
    record {
      at = here ∙ ap (λ t. Some (placed (state_of runner) (position_of runner) t)) content;
      low = one.stands.low;
      high = one.stands.high;
      window_low = other.stands.window_low ∙ other.stands.low ∙ ap (least (counted_head table)) (sym steps)
          ∙ sym one.stands.low;
      window_high = other.stands.window_high ∙ other.stands.high ∙ ap (greatest (counted_head table)) (sym steps)
          ∙ sym one.stands.high;
      state_named = one.stands.state_named;
      symbols_named = other.stands.symbols_named;
    }
