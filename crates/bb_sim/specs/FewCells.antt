-- The number of configurations in few cells, and its consequences for a run confined to them. These notions
-- are this project's own.
use Rattle.std.specs.Prelude.{◌≡◌, ◌≢◌, ℕ, ◌*◌, ◌^◌, ◌<◌, ◌≤◌, Some, length}
use Rattle.bb_machine.specs.declared.entry.Next.TheVariants.{Halt}
use Rattle.bb_machine.specs.Machine.{Table, IsMachine, symbols_of}
use Rattle.bb_sim.specs.Configuration.{Configuration}
use Rattle.bb_sim.specs.Run.{conf}
use Rattle.bb_sim.specs.Span.{span}

-- how many configurations a machine has whose head, and whose cells that aren't 0, are in one stretch of so
-- many cells: a state, a position in the stretch, and a symbol for each of its cells
abbrev pub configurations_in : Table → ℕ → ℕ
configurations_in table cells = length table * cells * symbols_of table ^ cells

-- configuration n exists and isn't in Z
pub record IsRunning (table : Table) (n : ℕ) : Type 0 where
  pub here : Configuration
  pub exists : conf table n ≡ Some here
  pub runs : here.state ≢ Halt

-- two steps up to the latest one have the same configuration
pub record RepeatsBy (table : Table) (latest : ℕ) : Type 0 where
  pub first : ℕ
  pub second : ℕ
  pub in_order : first < second
  pub not_later : second ≤ latest
  pub here : Configuration
  pub at_first : conf table first ≡ Some here
  pub at_second : conf table second ≡ Some here

-- a run that makes as many steps as there are configurations in so many cells, and is in these cells and not
-- in Z then, has met one configuration twice
abbrev pub FewCellsRepeat : Type 0
FewCellsRepeat = (table : Table) (cells : ℕ) → IsMachine table
    → IsRunning table (configurations_in table cells)
    → span table (configurations_in table cells) ≤ cells → RepeatsBy table (configurations_in table cells)
