-- The numbers that this crate's documents state, as literals.
use Rattle.std.specs.Prelude.{◌≡◌, ℕ}
use Rattle.bb_machine.specs.declared.limits.LimitFault.{LimitFault}
use Rattle.bb_machine.specs.declared.limits.LimitFault.TheVariants.{Steps, Cells, Depth, Nodes, DepthCells}
use Rattle.bb_machine.specs.declared.limits.TheConstants.{MAX_STEPS, MAX_CELLS, MAX_LEVELS, MAX_NODES}
use Rattle.bb_machine.specs.declared.machine.TheConstants.{LINE, MAX_STATES, MAX_SYMBOLS}

-- the greatest limits, and how many states, symbols and bytes of text a machine has at most
pub record NumbersAreStated : Type 0 where
  pub steps : MAX_STEPS ≡ 1000000000000
  pub cells : MAX_CELLS ≡ 67108864
  pub levels : MAX_LEVELS ≡ 10000
  pub nodes : MAX_NODES ≡ 1000000000000
  pub states : MAX_STATES ≡ 25
  pub symbols : MAX_SYMBOLS ≡ 10
  pub line : LINE ≡ 774

-- the number of each fault
abbrev pub fault_number : LimitFault → ℕ
fault_number Steps = 1
fault_number Cells = 2
fault_number Depth = 3
fault_number Nodes = 4
fault_number DepthCells = 5
