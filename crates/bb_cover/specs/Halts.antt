-- How a run ends that halts.
use Rattle.std.specs.Prelude.{ℕ}
use Rattle.bb_machine.specs.Limits.{Bounds}
use Rattle.bb_machine.specs.Machine.{Table}
use Rattle.bb_sim.specs.Run.{HaltsAt, IsScore}
use Rattle.bb_sim.specs.Span.{Inside}
use Rattle.bb_cover.specs.declared.halt.Halted.{Halted}
use Rattle.bb_cover.specs.UndefinedEntries.{HaltsOn}

-- after so many steps, which are inside, with this score, on this `---`
pub record EndsSo (table : Table) (bounds : Bounds) (steps : ℕ) (halted : Halted) : Type 0 where
  pub halts : HaltsAt table steps
  pub inside : Inside table bounds steps
  pub scores : IsScore table steps halted.score
  pub on : HaltsOn table steps halted.undefined
