-- Steps in registers, one after another, before a barrier.
use Rattle.std.specs.Prelude.{◌≡◌, min, max}
use Rattle.bb_registers.specs.Blocks.{StepsBefore}
use Rattle.bb_registers.specs.declared.blocks.Barrier.{Barrier}
use Rattle.bb_machine.specs.declared.packed.PackedTable.{PackedTable}
use Rattle.bb_decide.specs.declared.sprint.Sprint.{Sprint}

-- a step, whose head is taken in
pub record SprintsOn (packed : PackedTable) (barrier : Barrier) (old new : Sprint) : Type 0 where
  pub step : StepsBefore packed barrier old.run new.run
  pub least : new.least ≡ min old.least new.run.registers.head
  pub greatest : new.greatest ≡ max old.greatest new.run.registers.head

-- no step, or one more
pub data SprintsTo (packed : PackedTable) (barrier : Barrier) (old : Sprint) : Sprint → Type 0 where
  Stays : SprintsTo packed barrier old old
  GoesOn : (middle new : Sprint) → SprintsTo packed barrier old middle → SprintsOn packed barrier middle new
      → SprintsTo packed barrier old new
