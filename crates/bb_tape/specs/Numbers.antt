-- The numbers that this crate's documents state, as literals.
use Rattle.std.specs.Prelude.{◌≡◌, ℕ}
use Rattle.bb_tape.specs.declared.tape.TapeFault.{TapeFault}
use Rattle.bb_tape.specs.declared.tape.TapeFault.TheVariants.{Cells, Memory}
use Rattle.bb_tape.specs.declared.tape.TheConstants.{MAX_CELLS, MAX_SYMBOL}

-- the greatest limit of cells, and the greatest symbol
pub record NumbersAreStated : Type 0 where
  pub cells : MAX_CELLS ≡ 67108864
  pub symbol : MAX_SYMBOL ≡ 10

-- the number of each fault
abbrev pub fault_number : TapeFault → ℕ
fault_number Cells = 1
fault_number Memory = 2
