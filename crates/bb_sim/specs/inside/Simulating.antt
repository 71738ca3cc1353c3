-- The promise of `simulate` on a run, shared by it and by its loop. No public contract cites it.
use Rattle.std.specs.Prelude.{◌≡◌, Bool, Result, IfOk, IsTrue, OnErr, OnOk}
use Rattle.bb_machine.specs.Limits.{Bounds}
use Rattle.bb_machine.specs.Machine.{Table}
use Rattle.bb_tape.specs.TapeView.{TapeView}
use Rattle.bb_tape.specs.declared.tape.Memory.{Memory}
use Rattle.bb_sim.specs.declared.meter.Meter.{Meter}
use Rattle.bb_sim.specs.declared.simulation.Outcome.{Outcome}
use Rattle.bb_sim.specs.Meter.{CountsPart, CountsRun, IsWithinRun}
use Rattle.bb_sim.specs.Outcome.{IsOutcome}

-- how a run within bounds ends, and what was counted of it; no memory is left only on a tape that grows
pub record Simulates (grows : Bool) (table : Table) (bounds : Bounds) (old new : TapeView)
    (meter_old meter_new : Meter) (result : Result Outcome Memory) : Type 0 where
  pub outcome : IfOk result (IsOutcome table bounds)
  pub counted : OnOk result (CountsRun table bounds meter_old meter_new)
  pub cut : OnErr result (CountsPart table bounds new.content meter_old meter_new)
  pub within : IsWithinRun bounds meter_old meter_new
  pub limit : new.limit ≡ old.limit
  pub memory : OnErr result (IsTrue grows)
