-- A run inside a block of 64 cells of a tape, kept in registers: this project's own.
use Rattle.std.specs.Prelude.{◌≡◌, ◌≢◌, ◌+◌, ◌*◌, ◌%◌, ◌^◌, ◌<◌, ◌≤◌, ℕ, ℤ, pos, ◌+ℤ◌, ◌≤ℤ◌, ◌<ℤ◌, ◌⊎◌}
use Rattle.std.specs.Prelude.{bit_and}
use Rattle.std.specs.Int.{bit_at}
use Rattle.bb_machine.specs.declared.entry.Next.TheVariants as next
use Rattle.bb_machine.specs.Limits.{Bounds}
use Rattle.bb_machine.specs.Machine.{Table}
use Rattle.bb_tape.specs.Block.{IsBlock}
use Rattle.bb_tape.specs.Content.{cell}
use Rattle.bb_tape.specs.TapeView.{TapeView, IsSound}
use Rattle.bb_sim.specs.declared.meter.Meter.{Meter}
use Rattle.bb_sim.specs.declared.runner.Runner.{Runner}
use Rattle.bb_sim.specs.Meter.{CountsTo}
use Rattle.bb_sim.specs.Runner.{Stands, high_of, low_of, position_of, state_of, steps_of}
use Rattle.bb_registers.specs.declared.blocks.Barrier.{Barrier}
use Rattle.bb_registers.specs.declared.blocks.BlockRun.{BlockRun}
use Rattle.bb_machine.specs.declared.packed.PackedTable.{PackedTable}
use Rattle.bb_registers.specs.Registers.{StepsTo}

-- the 64 positions from one on are in a runner's window, on one side of 0, and the head is among them
pub record IsBlockOf (runner : Runner) (from : ℤ) : Type 0 where
  pub low : low_of runner ≤ℤ from
  pub high : (from +ℤ pos 63) ≤ℤ high_of runner
  pub side : (pos 0 ≤ℤ from) ⊎ ((from +ℤ pos 64) ≤ℤ pos 0)
  pub here : from ≤ℤ position_of runner
  pub within : position_of runner <ℤ (from +ℤ pos 64)

-- A machine's run within the bounds, with the cells from a position on in registers. A runner and the view of
-- a tape stand for the same configuration and steps. Outside the block the view is the tape's own.
pub record IsBlockRun (table : Table) (bounds : Bounds) (from : ℤ) (tape : TapeView) (run : BlockRun)
    : Type 0 where
  pub runner : Runner
  pub view : TapeView
  pub stands : Stands table runner view
  pub sound : IsSound view
  pub block : IsBlock view from
  pub low : view.low ≡ tape.low
  pub high : view.high ≡ tape.high
  pub limit : view.limit ≡ tape.limit
  pub cells : view.limit ≡ bounds.cells
  pub steps_is : run.steps ≡ steps_of runner
  pub few : run.steps ≤ bounds.steps
  pub place : ℕ
  pub within : place < 64
  pub head : run.registers.head ≡ 2 ^ place
  pub position : position_of runner ≡ from +ℤ pos place
  pub bits : (k : ℕ) → k < 64 → cell view.content (from +ℤ pos k) ≡ bit_at run.registers.bits k
  pub rest : (p : ℤ) → (p <ℤ from) ⊎ ((from +ℤ pos 64) ≤ℤ p) → cell view.content p ≡ cell tape.content p
  pub state : ℕ
  pub state_is : state_of runner ≡ next.State state
  pub entry : run.registers.entry % 64 ≡ 9 * state

-- a runner has gone on within the limits, and its steps were counted
pub record GoesOn (table : Table) (bounds : Bounds) (old new : Runner) (view_old view_new : TapeView)
    (meter_old meter_new : Meter) : Type 0 where
  pub stands : Stands table new view_new
  pub limit : view_new.limit ≡ view_old.limit
  pub few : steps_of new ≤ bounds.steps
  pub more : steps_of old ≤ steps_of new
  pub counts : (begun : Meter) → CountsTo table (steps_of old) begun meter_old
      → CountsTo table (steps_of new) begun meter_new

-- a step by a table to a state, that keeps before a barrier: it isn't past its last step, goes to a cell of
-- its window, and doesn't come to its head in its state
pub record StepsBefore (packed : PackedTable) (barrier : Barrier) (old new : BlockRun) : Type 0 where
  pub by : StepsTo packed old.registers new.registers
  pub on : bit_at new.registers.entry 8 ≡ 1 → ⊥
  pub before : old.steps < barrier.to
  pub inside : bit_and barrier.window new.registers.head ≢ 0
  pub apart : new.registers.head ≡ barrier.head → new.registers.entry % 64 ≡ barrier.entry → ⊥
  pub steps : new.steps ≡ old.steps + 1
