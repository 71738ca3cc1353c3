-- How the run of a search ends, as a simulation does or with what was found, and what is promised of it then.
use Rattle.std.proofs.Common.{◌≡◌, ℕ, ◌+◌, ℤ, Bool, inl, inr, IsTrue, Ok, Err, Option, Some, None}
use Rattle.std.proofs.Common.{refl, ap, subst}
use Rattle.bb_machine.specs.declared.entry.Next.TheVariants.{Halt}
use Rattle.bb_machine.specs.Limits.{Bounds}
use Rattle.bb_machine.specs.Machine.{Table}
use Rattle.bb_tape.specs.Content.{score}
use Rattle.bb_tape.specs.TapeView.{TapeView}
use Rattle.bb_tape.specs.declared.tape.Memory.{Memory}
use Rattle.bb_sim.specs.declared.meter.Meter.{Meter}
use Rattle.bb_sim.specs.declared.runner.Moved.{Moved}
use Rattle.bb_sim.specs.declared.runner.Moved.TheVariants.{Halted, NoCells, NoSteps, Stepped}
use Rattle.bb_sim.specs.declared.runner.Runner.{Runner}
use Rattle.bb_sim.specs.declared.simulation.Outcome.{Outcome}
use Rattle.bb_sim.specs.Meter.{CountsRun, CountsTo, IsWithinRun}
use Rattle.bb_sim.specs.Outcome.{IsOutcome}
use Rattle.bb_sim.specs.Run.{Never}
use Rattle.bb_sim.specs.Runner.{Answers, Moves, Reaches, Stands, Stays, state_of, steps_of}
use Rattle.bb_sim.specs.Span.{Inside, IsLastInside}
use Rattle.bb_sim.proofs.Facts.{count_is_within, halted_end, halts_in_Z, halts_last, no_halt_inside}
use Rattle.bb_sim.proofs.Facts.{wide_at_end}
use Rattle.bb_registers.specs.Registers.{FitsRegisters}
use Rattle.bb_cert.specs.declared.verdict.Verdict.{Verdict}
use Rattle.bb_cert.specs.declared.verdict.Verdict.TheVariants.{Translated}
use Rattle.bb_cert.specs.claims.Claim.{Claim}
use Rattle.bb_cert.specs.verdict.Verdict.{HasNumbers}
use Rattle.bb_decide.specs.Cycle.{CountsSearch, HasNoCycle}
use Rattle.bb_decide.specs.SinglePassCost.{IsStoppedAt}
use Rattle.bb_decide.specs.Translation.{FindsTranslation, HasNoTranslation}
use Rattle.bb_decide.specs.declared.bench.Bench.{Bench}
use Rattle.bb_decide.specs.declared.search_result.SearchResult.TheVariants.{Found, Ran}
use Rattle.bb_decide.specs.inside.SearchResult.{MakesSinglePass, RunsSinglePass, Seeks}
use Rattle.bb_decide.specs.inside.Step.{EndsRun, GoesOn, StepsOn, TakesOver, TellsEnd}
use Rattle.bb_decide.proofs.Benches.{IsAsLent}
use Rattle.bb_decide.proofs.Counted.{HasCut, taken_over}

-- where a call of `advance` left a runner, whose run a meter took over
module _ {table : Table} {bounds : Bounds} {old new : Runner} {view : TapeView} {first meter : Meter}
    (stands : Stands table new view) (takes_over : TakesOver new first meter) where
  -- it didn't step
  module _ (view_old : TapeView) (other_old other : Meter) where
    ended : (moved : Moved) → IsLastInside table bounds (steps_of new)
        → Stays old new view_old view other_old other → ((outcome : Outcome)
        → TellsEnd moved (steps_of new) (score view.content) outcome → IsOutcome table bounds outcome)
        → EndsRun table bounds old new view first meter moved
    ended moved last stays is_outcome = record {
      stands = stands;
      last = last;
      no_further = inl (ap steps_of stays.runner);
      is_outcome = is_outcome;
      counts = taken_over stands first takes_over;
    }

    pub ends_where_stopped : (moved : Moved) → (moved ≡ Stepped → ⊥)
        → Answers table bounds (steps_of old) moved → Reaches table bounds new view moved
        → Moves table old new view_old view other_old other moved
        → EndsRun table bounds old new view first meter moved
    ends_where_stopped Halted apart answers last stays = ended Halted last stays (λ outcome is.
        rw is (halted_end stands last.inside (rw (ap steps_of stays.runner) answers) _ _ refl refl))
    ends_where_stopped NoSteps apart answers last stays =
        let here : Answers table bounds (steps_of new) NoSteps = rw (ap steps_of stays.runner) answers in
        ended NoSteps last stays (λ outcome is.
        rw is (no_halt_inside _ _ _ last.inside last here.0, rw (← here.1) last.inside.within_cells))
    ends_where_stopped NoCells apart answers last stays =
        let here : Answers table bounds (steps_of new) NoCells = rw (ap steps_of stays.runner) answers in
        ended NoCells last stays (λ outcome is.
        rw is (no_halt_inside _ _ _ last.inside last here.0, wide_at_end _ _ _ last.inside here.2 here.1))
    ends_where_stopped Stepped apart answers reaches moves =
        let same : Stepped ≡ Stepped = refl in absurd (apart same)

  -- it stepped into Z
  pub ends_into_Z : state_of new ≡ Halt → Inside table bounds (steps_of new) → steps_of new ≡ steps_of old + 1
      → EndsRun table bounds old new view first meter Halted
  ends_into_Z halts inside next =
      let stops = halts_in_Z table new view stands halts in
      record {
        stands = stands;
        last = halts_last table bounds (steps_of new) inside stops;
        no_further = inr (halts, next);
        is_outcome = λ outcome is. rw is (halted_end stands inside stops _ _ refl refl);
        counts = taken_over stands first takes_over;
      }

-- what is promised of the step then
module _ {grows : Bool} {table : Table} {bounds : Bounds} {old new : Runner} {view_old view : TapeView}
    {first meter : Meter} (limit : view.limit ≡ view_old.limit) where
  pub step_goes_on : (moved : Moved) → GoesOn table bounds old new view first meter moved
      → StepsOn grows table bounds old new view_old view first meter (Ok moved)
  step_goes_on moved on = record { goes_on = on; cut = tt; within = tt; memory = tt; limit = limit }

  pub step_is_cut : {fault : Memory} {n : ℕ} → HasCut table bounds n view.content first meter → IsTrue grows
      → StepsOn grows table bounds old new view_old view first meter (Err fault)
  step_is_cut cut memory =
      record { goes_on = tt; cut = cut.part; within = cut.within; memory = memory; limit = limit }

-- where it didn't step, or into Z, the run has ended
pub stopped_on : {table : Table} {bounds : Bounds} {old new : Runner} {view : TapeView} {first meter : Meter}
    {moved : Moved} → EndsRun table bounds old new view first meter moved → (moved ≡ Stepped → ⊥)
    → GoesOn table bounds old new view first meter moved
stopped_on {moved = Stepped} ends apart = let same : Stepped ≡ Stepped = refl in absurd (apart same)
stopped_on {moved = moved} ends apart = ends

pub has_ended : (table : Table) (bounds : Bounds) (old new : Runner) (view : TapeView) (first meter : Meter)
    (moved : Moved) → (moved ≡ Stepped → ⊥) → GoesOn table bounds old new view first meter moved
    → EndsRun table bounds old new view first meter moved
has_ended table bounds old new view first meter Stepped apart on =
    let same : Stepped ≡ Stepped = refl in absurd (apart same)
has_ended table bounds old new view first meter moved apart on = on

-- what a search finds
pub record IsFound (Finds : Option Verdict → Type 0) (table : Table) (bounds : Bounds) (first meter : Meter)
    (verdict : Verdict) : Type 0 where
  pub found : Finds (Some verdict)
  pub counted : CountsSearch table bounds first meter (Some verdict)
  pub within : IsWithinRun bounds first meter
  pub never : Never table
  pub claim : Claim table verdict
  pub numbers : HasNumbers verdict

-- a run that has ended was counted whole
ran : {table : Table} {bounds : Bounds} {before after : Runner} {run : TapeView} {first here meter : Meter}
    {moved : Moved} → here ≡ first → EndsRun table bounds before after run here meter moved
    → CountsRun table bounds first meter × IsWithinRun bounds first meter
ran {table} {bounds} {after = after} {first = first} {meter = meter} same ends =
    let counts : CountsTo table (steps_of after) first meter = rw same at ends.counts in (
      record { last = steps_of after; is_last = ends.last; counts = counts },
      count_is_within table bounds (steps_of after) first meter ends.last.inside counts,
    )

-- what the single-pass run finds of records
found_records : {key : ℤ → ℕ} {table : Table} {bounds : Bounds} (first meter : Meter) (verdict : Verdict)
    → FindsTranslation table bounds (Some verdict) → CountsSearch table bounds first meter (Some verdict)
    → ((n : ℕ) → IsStoppedAt key table bounds n → ⊥)
    → MakesSinglePass table bounds key first meter (Some (Found verdict))
found_records begun ended (Translated side first second extent) finds counts unstopped = (finds, counts, unstopped)
found_records begun ended verdict finds counts unstopped = absurd finds

module _ {T : Type 0} {view : T → TapeView} {grows : Bool} {table : Table} {bounds : Bounds}
    {old new : Bench T} {first here meter : Meter} (lent : IsAsLent view bounds.cells old new first here)
  where
    pub seeks_to_end : {Finds : Option Verdict → Type 0} {before after : Runner} {run : TapeView}
        {moved : Moved} {outcome : Outcome} → EndsRun table bounds before after run here meter moved
        → TellsEnd moved (steps_of after) (score run.content) outcome → Finds None
        → Seeks Finds grows view table bounds old new first meter (Ok (Ran outcome))
    seeks_to_end {outcome = outcome} ends tells none =
        let is = ran lent.meter ends in let told = ends.is_outcome outcome tells in assumption

    pub seeks_and_finds : {Finds : Option Verdict → Type 0} {verdict : Verdict}
        → IsFound Finds table bounds here meter verdict
        → Seeks Finds grows view table bounds old new first meter (Ok (Found verdict))
    seeks_and_finds found = let is = rw lent.meter at found in assumption

    pub seeks_until_cut : {Finds : Option Verdict → Type 0} {fault : Memory} {n : ℕ}
        → HasCut table bounds n (view new.run).content here meter → IsTrue grows
        → Seeks Finds grows view table bounds old new first meter (Err fault)
    seeks_until_cut cut memory = let is = rw lent.meter at cut in assumption

    -- the single-pass run, where it wasn't stopped
    module _ {key : ℤ → ℕ} (unstopped : (n : ℕ) → IsStoppedAt key table bounds n → ⊥) where
      pub runs_to_end : {before after : Runner} {run : TapeView} {moved : Moved} {outcome : Outcome}
          → EndsRun table bounds before after run here meter moved
          → TellsEnd moved (steps_of after) (score run.content) outcome → HasNoTranslation table bounds
          → HasNoCycle table bounds
          → RunsSinglePass grows view table bounds key old new first meter (Ok (Some (Ran outcome)))
      runs_to_end {outcome = outcome} ends tells no_record no_cycle =
          let is = ran lent.meter ends in let told = ends.is_outcome outcome tells in assumption

      pub runs_and_finds : {verdict : Verdict}
          → IsFound (FindsTranslation table bounds) table bounds here meter verdict
          → RunsSinglePass grows view table bounds key old new first meter (Ok (Some (Found verdict)))
      runs_and_finds {verdict} found =
          let is = rw lent.meter at found in
          record {
            single_pass = found_records first meter verdict is.found is.counted unstopped;
            cut = tt;
            within = is.within;
            promised = record { claim = is.claim; numbers = is.numbers; memory = tt };
            tapes = lent.tapes;
            path = lent.path;
          }

    pub runs_to_stop : {key : ℤ → ℕ} (n : ℕ) → IsStoppedAt key table bounds n
        → CountsTo table n here meter
        → RunsSinglePass grows view table bounds key old new first meter (Ok None)
    runs_to_stop n stopped counted =
        let counts : CountsTo table n first meter = rw lent.meter at counted in
        record {
          single_pass = (n, stopped, counts);
          cut = tt;
          within = count_is_within table bounds n first meter stopped.inside counts;
          promised = record { claim = tt; numbers = tt; memory = tt };
          tapes = lent.tapes;
          path = lent.path;
        }

    pub runs_until_cut : {key : ℤ → ℕ} {fault : Memory} {n : ℕ}
        → HasCut table bounds n (view new.run).content here meter
        → (FitsRegisters table (n + 1) → ⊥) → IsTrue grows
        → RunsSinglePass grows view table bounds key old new first meter (Err fault)
    runs_until_cut cut wide memory =
        let is = rw lent.meter at cut in
        record {
          single_pass = tt;
          cut = inl (is.part, λ fits. wide (subst (λ m. FitsRegisters table (m + 1)) is.at fits));
          within = is.within;
          promised = record { claim = tt; numbers = tt; memory = memory };
          tapes = lent.tapes;
          path = lent.path;
        }
