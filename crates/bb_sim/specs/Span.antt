-- How many cells a run has needed, and which steps are inside given limits. These are this project's own
-- notions.
use Rattle.std.specs.Prelude.{◌≡◌, ℕ, zero, suc, ◌≤◌, Option, Some, None, ℤ, pos}
use Rattle.std.specs.Int.{int_min, int_max}
use Rattle.bb_machine.specs.declared.entry.Next.{Next}
use Rattle.bb_machine.specs.declared.entry.Next.TheVariants.{State, Halt}
use Rattle.bb_machine.specs.Limits.{Bounds}
use Rattle.bb_machine.specs.Machine.{Table}
use Rattle.bb_sim.specs.Configuration.{Configuration}
use Rattle.bb_sim.specs.Run.{conf}
use Rattle.bb_sim.specs.CellsBetween.{cells_between}

-- the position that a state and a head count for: none (so 0) in Z
abbrev pub counted_position : Next → ℤ → ℤ
counted_position (State q) head = head
counted_position Halt head = pos 0

abbrev pub counted_position_in : Option Configuration → ℤ
counted_position_in None = pos 0
counted_position_in (Some c) = counted_position c.state c.head

-- the head's position at step n as it counts for the span: 0 for no such step and for Z. Step 0 stands at 0,
-- so this changes neither end of the span (`SpanIsReached`)
unfoldable pub counted_head : Table → ℕ → ℤ
counted_head table n = counted_position_in (conf table n)

-- the least of f 0 to f n
abbrev pub least : (ℕ → ℤ) → ℕ → ℤ
least f zero = f 0
least f (suc n) = int_min (least f n) (f (suc n))

-- the greatest of f 0 to f n
abbrev pub greatest : (ℕ → ℤ) → ℕ → ℤ
greatest f zero = f 0
greatest f (suc n) = int_max (greatest f n) (f (suc n))

-- how many cells there are from the least to the greatest position of the head up to step n, Z not counted
abbrev pub span : Table → ℕ → ℕ
span table n = cells_between (least (counted_head table) n) (greatest (counted_head table) n)

-- step n is made within the bounds of steps and cells
pub record Inside (table : Table) (bounds : Bounds) (n : ℕ) : Type 0 where
  pub here : Configuration
  pub exists : conf table n ≡ Some here
  pub within_steps : n ≤ bounds.steps
  pub within_cells : span table n ≤ bounds.cells

-- the last step that is inside
pub record IsLastInside (table : Table) (bounds : Bounds) (n : ℕ) : Type 0 where
  pub inside : Inside table bounds n
  pub greatest : (m : ℕ) → Inside table bounds m → m ≤ n
