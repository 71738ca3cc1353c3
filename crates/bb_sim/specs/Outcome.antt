-- What a simulation within limits finds.
use Rattle.std.specs.Prelude.{ℕ, ◌<◌, ◌≤◌}
use Rattle.bb_sim.specs.declared.simulation.Outcome.{Outcome}
use Rattle.bb_sim.specs.declared.simulation.Outcome.TheVariants.{Halt, NoSteps, NoCells}
use Rattle.bb_machine.specs.Limits.{Bounds}
use Rattle.bb_machine.specs.Machine.{Table}
use Rattle.bb_sim.specs.Run.{HaltsAt, IsScore}
use Rattle.bb_sim.specs.Span.{Inside, span}

-- the machine halts after n steps, and step n is inside the limits
pub record HaltsInside (table : Table) (bounds : Bounds) (n : ℕ) : Type 0 where
  pub halts : HaltsAt table n
  pub inside : Inside table bounds n

-- the machine halts inside the limits after no number of steps
abbrev pub HaltsNowhere : Table → Bounds → Type 0
HaltsNowhere table bounds = (n : ℕ) → HaltsInside table bounds n → ⊥

-- a halt with its steps and its score just where the machine halts inside the limits; else the limit of
-- steps, where that many steps stay within the cells; else the limit of cells
abbrev pub IsOutcome : Table → Bounds → Outcome → Type 0
IsOutcome table bounds (Halt n ones) = HaltsInside table bounds n × IsScore table n ones
IsOutcome table bounds NoSteps = HaltsNowhere table bounds × (span table bounds.steps ≤ bounds.cells)
IsOutcome table bounds NoCells = HaltsNowhere table bounds × (bounds.cells < span table bounds.steps)
