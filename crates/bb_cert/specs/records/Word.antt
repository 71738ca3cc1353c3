-- Records of a run among 64 positions, compared in registers: this project's own.
use Rattle.std.specs.Prelude.{◌≡◌}
use Rattle.bb_tape.specs.TapeView.{TapeView}
use Rattle.bb_sim.specs.declared.runner.Runner.{Runner}
use Rattle.bb_registers.specs.declared.cells.BitCells.{BitCells}
use Rattle.bb_registers.specs.BitCells.{IsInWord, content_of}
use Rattle.bb_cert.specs.declared.records.Records.{Records}
use Rattle.bb_cert.specs.records.Follow.{HasSameCells, IsComparable, IsKeptInStateOf}

-- the cells are those of two tapes on which the records can be compared, the window of the run's tape among
-- the 64 positions
pub record IsComparableInWord (records : Records) (runner : Runner) (saved run : BitCells) : Type 0 where
  pub saved_view : TapeView
  pub run_view : TapeView
  pub comparable : IsComparable records runner saved_view run_view
  pub saved_is : saved_view.content ≡ content_of saved
  pub run_is : run_view.content ≡ content_of run
  pub low_in_word : IsInWord run_view.low
  pub high_in_word : IsInWord run_view.high

-- the kept record agrees with the one that the runner has just made
abbrev pub AgreesInWord : Records → Runner → BitCells → BitCells → Type 0
AgreesInWord records runner saved run =
    IsKeptInStateOf records runner × HasSameCells records runner (content_of saved) (content_of run)
