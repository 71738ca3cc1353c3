-- Laws on halts, and on machines that never halt, for runs confined to few cells. These laws are this
-- project's own.
use Rattle.std.specs.Prelude.{ℕ, ◌≤◌}
use Rattle.bb_machine.specs.Machine.{Table, IsMachine}
use Rattle.bb_sim.specs.FewCells.{configurations_in, IsRunning}
use Rattle.bb_sim.specs.Run.{HaltsAt, Never}
use Rattle.bb_sim.specs.Span.{span}

-- a machine that halts in so many cells makes no more steps than there are configurations in them
abbrev pub HaltsInFewCellsAreEarly : Type 0
HaltsInFewCellsAreEarly = (table : Table) (cells n : ℕ) → IsMachine table → HaltsAt table n
    → span table n ≤ cells → n ≤ configurations_in table cells

-- a machine that makes as many steps as there are configurations in so many cells, and is in these cells and
-- not in Z then, never halts
abbrev pub LongRunsInFewCellsNeverHalt : Type 0
LongRunsInFewCellsNeverHalt = (table : Table) (cells n : ℕ) → IsMachine table
    → configurations_in table cells ≤ n → IsRunning table n → span table n ≤ cells → Never table
