-- How long a run stays among the 64 positions.
use Rattle.std.proofs.Common.{ℕ, ◌≤◌, arith}
use Rattle.std.proofs.lemmas.Int.{ints}
use Rattle.bb_machine.specs.Limits.{Bounds}
use Rattle.bb_machine.specs.Machine.{Table}
use Rattle.bb_sim.specs.Runner.{steps_of}
use Rattle.bb_sim.specs.Span.{counted_head}
use Rattle.bb_sim.proofs.Facts.{greatest_bounds, least_bounds}
use Rattle.bb_registers.specs.declared.run.RegisterRun.{RegisterRun}
use Rattle.bb_registers.specs.Registers.{FitsRegisters, IsRegisterRun, StaysInWord}

-- a run in registers has stayed there
pub stays_in_word : {table : Table} {bounds : Bounds} {run : RegisterRun} (known : IsRegisterRun table bounds run)
    → StaysInWord table (steps_of known.runner)
stays_in_word {table} known m few =
    let n = steps_of known.runner in
    let below = least_bounds (counted_head table) m n few in
    let above = greatest_bounds (counted_head table) m n few in (
      omega (arith, ints, below, known.window_is.low_in_word, known.stands.window_low, known.stands.low),
      omega (arith, ints, above, known.window_is.high_in_word, known.stands.window_high, known.stands.high),
    )

-- a run that fits the registers did so before
pub fits_before : {table : Table} {m n : ℕ} → m ≤ n → FitsRegisters table n → FitsRegisters table m
fits_before few fits = record {
  symbols = fits.symbols;
  states = fits.states;
  word = λ k below. fits.word k (omega (arith, few, below));
}
