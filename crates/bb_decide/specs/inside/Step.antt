-- The next step of a search's run, for the functions of this crate. No public contract cites it.
use Rattle.std.specs.Prelude.{◌≡◌, ◌≢◌, ◌+◌, ◌<◌, ◌^◌, ◌⊎◌, ℕ, Bool, IfOk, IsTrue, OnErr}
use Rattle.std.specs.Prelude.{Result}
use Rattle.bb_machine.specs.declared.entry.Next.TheVariants.{Halt}
use Rattle.bb_machine.specs.Limits.{Bounds}
use Rattle.bb_machine.specs.Machine.{Table}
use Rattle.bb_tape.specs.TapeView.{TapeView}
use Rattle.bb_tape.specs.declared.tape.Memory.{Memory}
use Rattle.bb_sim.specs.CellsBetween.{cells_between}
use Rattle.bb_sim.specs.declared.meter.Meter.{Meter}
use Rattle.bb_sim.specs.declared.runner.Runner.{Runner}
use Rattle.bb_sim.specs.declared.runner.Moved.{Moved}
use Rattle.bb_sim.specs.declared.runner.Moved.TheVariants.{Halted, NoSteps, NoCells, Stepped}
use Rattle.bb_sim.specs.declared.simulation.Outcome.TheVariants as outcomes
use Rattle.bb_sim.specs.declared.simulation.Outcome.{Outcome}
use Rattle.bb_tape.specs.Content.{score}
use Rattle.bb_sim.specs.Meter.{CountsPart, CountsTo, IsWithinRun, counted}
use Rattle.bb_sim.specs.Outcome.{IsOutcome}
use Rattle.bb_sim.specs.Runner.{Stands, high_of, low_of, state_of, steps_of}
use Rattle.bb_sim.specs.Span.{Inside, IsLastInside}

-- a meter adds a runner's run
abbrev pub TakesOver : Runner → Meter → Meter → Type 0
TakesOver runner old new = new ≡ counted old (steps_of runner) (cells_between (low_of runner)
    (high_of runner))

-- the outcome after this result of `advance`, after so many steps with so many nonzero cells
abbrev pub TellsEnd : Moved → ℕ → ℕ → Outcome → Type 0
TellsEnd NoSteps steps ones outcome = outcome ≡ outcomes.NoSteps
TellsEnd NoCells steps ones outcome = outcome ≡ outcomes.NoCells
TellsEnd Halted steps ones outcome = outcome ≡ outcomes.Halt steps ones
TellsEnd Stepped steps ones outcome = outcome ≡ outcomes.Halt steps ones

-- a runner has made a step from where it stood, not into Z
pub record HasMoved (table : Table) (old new : Runner) (view : TapeView) : Type 0 where
  pub view_before : TapeView
  pub stood : Stands table old view_before
  pub stands : Stands table new view
  pub next : steps_of new ≡ steps_of old + 1
  pub running : state_of new ≢ Halt

-- the run has ended as a simulation does, and the meter has counted it: the runner stands at the last step
-- inside, which is the one where it stood before, or the next in Z
pub record EndsRun (table : Table) (bounds : Bounds) (old new : Runner) (view : TapeView)
    (meter_old meter_new : Meter) (moved : Moved) : Type 0 where
  pub stands : Stands table new view
  pub last : IsLastInside table bounds (steps_of new)
  pub no_further : (steps_of new ≡ steps_of old) ⊎ ((state_of new ≡ Halt) × (steps_of new ≡ steps_of old + 1))
  pub is_outcome : (outcome : Outcome) → TellsEnd moved (steps_of new) (score view.content) outcome
      → IsOutcome table bounds outcome
  pub counts : CountsTo table (steps_of new) meter_old meter_new

-- the run continues by a step inside, counted by its runner alone, and its counts fit the meter; else it has
-- ended
abbrev pub GoesOn : Table → Bounds → Runner → Runner → TapeView → Meter → Meter → Moved → Type 0
GoesOn table bounds old new view meter_old meter_new Stepped =
    HasMoved table old new view × Inside table bounds (steps_of new) × (meter_new ≡ meter_old)
    × (meter_new.steps + steps_of new < 2 ^ 64)
GoesOn table bounds old new view meter_old meter_new moved =
    EndsRun table bounds old new view meter_old meter_new moved

-- the promise on it: an allocation can fail only on a tape that grows, and the run is counted then
pub record StepsOn (grows : Bool) (table : Table) (bounds : Bounds) (old new : Runner)
    (view_old view_new : TapeView) (meter_old meter_new : Meter) (result : Result Moved Memory)
    : Type 0 where
  pub goes_on : IfOk result (GoesOn table bounds old new view_new meter_old meter_new)
  pub cut : OnErr result (CountsPart table bounds view_new.content meter_old meter_new)
  pub within : OnErr result (IsWithinRun bounds meter_old meter_new)
  pub memory : OnErr result (IsTrue grows)
  pub limit : view_new.limit ≡ view_old.limit
