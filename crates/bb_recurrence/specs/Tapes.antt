-- The memory for finding recurrences.
use Rattle.std.specs.Prelude.{◌≡◌, ℕ, ◌≤◌}
use Rattle.bb_machine.specs.Limits.{Bounds}
use Rattle.bb_tape.specs.TapeView.{TapeView}
use Rattle.bb_tree.specs.Path.{depth_of}
use Rattle.bb_cert.specs.checker.Pair.{PairHasCells}
use Rattle.bb_recurrence.specs.declared.finder.Finder.{Finder}
use Rattle.bb_recurrence.specs.declared.finder.Tapes.{Tapes}

-- each tape has room for so many cells
pub record TapesHaveCells {T : Type 0} (view : T → TapeView) (cells : ℕ) (tapes : Tapes T) : Type 0 where
  pub pair : PairHasCells view cells tapes.pair
  pub ahead : (view tapes.ahead).limit ≡ cells

-- the tapes have the cells of the bounds, and the path has room for their levels
pub record HasMemoryFor {T : Type 0} (view : T → TapeView) (bounds : Bounds) (finder : Finder T)
    : Type 0 where
  pub tapes : TapesHaveCells view bounds.cells finder.tapes
  pub path : bounds.depth ≤ depth_of finder.path
