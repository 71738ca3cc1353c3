-- What deciding a machine may use.
use Rattle.std.specs.Prelude.{◌≡◌, ℕ}
use Rattle.bb_tape.specs.TapeView.{TapeView}
use Rattle.bb_decide.specs.declared.bench.Bench.{Bench}

-- each tape has room for so many cells
pub record BenchHasCells {T : Type 0} (view : T → TapeView) (cells : ℕ) (bench : Bench T) : Type 0 where
  pub run : (view bench.run).limit ≡ cells
  pub right : (view bench.right).limit ≡ cells
  pub left : (view bench.left).limit ≡ cells

-- these are its tapes
pub record HasTapes {T : Type 0} (run right left : T) (bench : Bench T) : Type 0 where
  pub is_run : bench.run ≡ run
  pub is_right : bench.right ≡ right
  pub is_left : bench.left ≡ left
