-- The promise of `advance` on a call, shared by it and by its half for entries without a next state. No
-- public contract cites it.
use Rattle.std.specs.Prelude.{◌≡◌, ◌+◌, Bool, Result, IfOk, IsTrue, OnErr, OnOk}
use Rattle.bb_machine.specs.Limits.{Bounds}
use Rattle.bb_machine.specs.Machine.{Table}
use Rattle.bb_tape.specs.TapeView.{TapeView}
use Rattle.bb_tape.specs.declared.tape.Memory.{Memory}
use Rattle.bb_sim.specs.declared.meter.Meter.{Meter}
use Rattle.bb_sim.specs.declared.runner.Moved.{Moved}
use Rattle.bb_sim.specs.declared.runner.Moved.TheVariants.{Stepped}
use Rattle.bb_sim.specs.declared.runner.Runner.{Runner}
use Rattle.bb_sim.specs.CellsBetween.{cells_between}
use Rattle.bb_sim.specs.Runner.{Answers, Moves, Reaches, Stands, high_of, low_of, steps_of}
use Rattle.bb_sim.specs.Span.{span}

-- what it answers, what that changes, and where the runner stands then; no memory is left only on a tape that
-- grows, where a step would have been made: then none was, no cell has changed, and the window is the one
-- that it needed
pub record Advances (grows : Bool) (table : Table) (bounds : Bounds) (old new : Runner)
    (view_old view_new : TapeView) (meter_old meter_new : Meter) (result : Result Moved Memory)
    : Type 0 where
  pub answers : IfOk result (Answers table bounds (steps_of old))
  pub moves : IfOk result (Moves table old new view_old view_new meter_old meter_new)
  pub reaches : IfOk result (Reaches table bounds new view_new)
  pub stands : OnOk result (Stands table new view_new)
  pub limit : view_new.limit ≡ view_old.limit
  pub memory : OnErr result (IsTrue grows)
  pub wanted : OnErr result (Answers table bounds (steps_of old) Stepped)
  pub uncounted : OnErr result (meter_new ≡ meter_old)
  pub unmade : OnErr result (steps_of new ≡ steps_of old)
  pub unwritten : OnErr result (view_new.content ≡ view_old.content)
  pub window : OnErr result (cells_between (low_of new) (high_of new) ≡ span table (steps_of old + 1))
