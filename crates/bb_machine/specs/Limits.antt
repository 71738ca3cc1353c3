-- The limits of a run and of the backward tree, which of them are accepted, and the text of each
-- refusal. Ranges, their order and the texts are this project's own.
use Rattle.std.specs.Prelude.{ℕ, ◌+◌, ◌*◌, ◌<◌, ◌≤◌, ◌⊎◌, List, codes}
use Rattle.bb_machine.specs.declared.limits.TheConstants.{MAX_STEPS, MAX_CELLS, MAX_LEVELS, MAX_NODES}
use Rattle.bb_machine.specs.declared.limits.LimitFault.{LimitFault}
use Rattle.bb_machine.specs.declared.limits.LimitFault.TheVariants.{Steps, Cells, Depth, Nodes, DepthCells}

-- four limits of any size: the steps of one simulation, the cells of one tape, the levels and the
-- nodes of one backward tree
pub record Bounds : Type 0 where
  pub steps : ℕ
  pub cells : ℕ
  pub depth : ℕ
  pub nodes : ℕ

-- limits that are accepted; so `2 * depth - 1` cells, which a backward walk may touch, fit
pub record IsAccepted (b : Bounds) : Type 0 where
  pub steps : b.steps ≤ MAX_STEPS
  pub some_cell : 1 ≤ b.cells
  pub cells : b.cells ≤ MAX_CELLS
  pub depth : b.depth ≤ MAX_LEVELS
  pub nodes : b.nodes ≤ MAX_NODES
  pub depth_fits : 2 * b.depth ≤ b.cells + 1

-- where a fault holds, whatever other faults do
abbrev pub Holds : Bounds → LimitFault → Type 0
Holds b Steps = MAX_STEPS < b.steps
Holds b Cells = (b.cells < 1) ⊎ (MAX_CELLS < b.cells)
Holds b Depth = MAX_LEVELS < b.depth
Holds b Nodes = MAX_NODES < b.nodes
Holds b DepthCells = b.cells + 1 < 2 * b.depth

-- the rank of a fault in the order of reports
abbrev pub rank : LimitFault → ℕ
rank Steps = 1
rank Cells = 2
rank Depth = 3
rank Nodes = 4
rank DepthCells = 5

-- the fault holds, and none of a lower rank does
pub record IsFirstFault (b : Bounds) (fault : LimitFault) : Type 0 where
  pub holds : Holds b fault
  pub first : (other : LimitFault) → Holds b other → rank fault ≤ rank other

-- what is printed of a fault
abbrev pub fault_text : LimitFault → List ℕ
fault_text Steps = codes "bb: steps out of range"
fault_text Cells = codes "bb: cells out of range"
fault_text Depth = codes "bb: depth out of range"
fault_text Nodes = codes "bb: nodes out of range"
fault_text DepthCells = codes "bb: depth does not fit in cells"
