-- What is known where a run ends, whichever way it does.
use Rattle.std.proofs.Common.{◌≡◌, Bool, Ok, refl, ◌∙◌, ap}
use Rattle.bb_machine.specs.declared.entry.Next.TheVariants.{Halt}
use Rattle.bb_machine.specs.Limits.{Bounds}
use Rattle.bb_machine.specs.Machine.{Table}
use Rattle.bb_tape.specs.Content.{cell}
use Rattle.bb_tape.specs.TapeView.{TapeView}
use Rattle.bb_sim.specs.declared.meter.Meter.{Meter}
use Rattle.bb_sim.specs.declared.runner.Moved.{Moved}
use Rattle.bb_sim.specs.declared.runner.Moved.TheVariants.{Halted, NoCells, NoSteps, Stepped}
use Rattle.bb_sim.specs.declared.runner.Runner.{Runner}
use Rattle.bb_sim.specs.declared.simulation.Outcome.{Outcome}
use Rattle.bb_sim.specs.Outcome.{IsOutcome}
use Rattle.bb_sim.specs.inside.Simulating.{Simulates}
use Rattle.bb_sim.specs.Configuration.{Configuration, entry_at, followed, next}
use Rattle.bb_sim.specs.Meter.{CountsTo}
use Rattle.bb_sim.specs.Run.{HaltsAt}
use Rattle.bb_sim.specs.Runner.{Moves, Reaches, Stands, Stays, position_of, state_of, steps_of}
use Rattle.bb_sim.specs.Span.{IsLastInside}
use Rattle.bb_sim.proofs.Counting.{RunsWithin}
use Rattle.bb_sim.proofs.RunLaws.{count_is_within}

-- where a call doesn't step, the run is at the last step inside, and was counted up to there
module _ {table : Table} {bounds : Bounds} {old new : Runner} {view_old view_new : TapeView}
    {first meter_old : Meter} (run : RunsWithin table bounds old view_old first meter_old)
    (stands : Stands table new view_new) (meter : Meter) where
  ends_stays : IsLastInside table bounds (steps_of new)
      → Stays old new view_old view_new meter_old meter
      → IsLastInside table bounds (steps_of old) × CountsTo table (steps_of old) first meter
  ends_stays last stays = let same = ap steps_of stays.runner in (rw same at last, stays.meter ∙ run.counts)

  ends_stopped : (moved : Moved) → (moved ≡ Stepped → ⊥) → Reaches table bounds new view_new moved
      → Moves table old new view_old view_new meter_old meter moved
      → IsLastInside table bounds (steps_of old) × CountsTo table (steps_of old) first meter
  ends_stopped Halted apart last stays = ends_stays last stays
  ends_stopped NoSteps apart last stays = ends_stays last stays
  ends_stopped NoCells apart last stays = ends_stays last stays
  ends_stopped Stepped apart reaches moves = let same : Stepped ≡ Stepped = refl in absurd (apart same)

  -- so ends a simulation that began with such a tape and meter
  pub simulated : {grows : Bool} {first_view : TapeView} {outcome : Outcome} (moved : Moved)
      → (moved ≡ Stepped → ⊥) → Reaches table bounds new view_new moved
      → Moves table old new view_old view_new meter_old meter moved → view_new.limit ≡ first_view.limit
      → (IsLastInside table bounds (steps_of old) → IsOutcome table bounds outcome)
      → Simulates grows table bounds first_view view_new first meter (Ok outcome)
  simulated moved apart reaches moves limit outcome =
      let end = ends_stopped moved apart reaches moves in
      record {
        outcome = outcome end.0;
        counted = record { last = steps_of old; is_last = end.0; counts = end.1 };
        cut = tt;
        within = count_is_within table bounds (steps_of old) first meter end.0.inside end.1;
        limit = limit;
        memory = tt;
      }

-- a runner in Z stands where the machine halts
pub halts_in_Z : (table : Table) (runner : Runner) (run : TapeView) → Stands table runner run
    → state_of runner ≡ Halt → HaltsAt table (steps_of runner)
unfolding next
halts_in_Z table runner run stands halts = record {
  last = _;
  exists = stands.at;
  no_next =
      let c : Configuration =
      record { state = state_of runner; head = position_of runner; tape = run.content } in
      ap (λ s. followed (entry_at table s (cell c.tape c.head)) c) halts;
}
