-- The tapes that checking a claim may use.
use Rattle.std.specs.Prelude.{◌≡◌, ℕ}
use Rattle.bb_tape.specs.TapeView.{TapeView}
use Rattle.bb_cert.specs.declared.checker.checking.Pair.{Pair}

-- each tape has room for so many cells
pub record PairHasCells {T : Type 0} (view : T → TapeView) (cells : ℕ) (pair : Pair T) : Type 0 where
  pub run : (view pair.run).limit ≡ cells
  pub saved : (view pair.saved).limit ≡ cells
