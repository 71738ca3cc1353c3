-- The kept record of a side, in registers: this project's own.
use Rattle.std.specs.Prelude.{◌≡◌, ℕ, ◌<◌, ◌^◌, min, max, Option, ℤ, pos, ◌-ℤ◌}
use Rattle.bb_machine.specs.Limits.{Bounds}
use Rattle.bb_machine.specs.Machine.{Table}
use Rattle.bb_tape.specs.TapeView.{TapeView}
use Rattle.bb_cert.specs.declared.records.Records.{Records}
use Rattle.bb_cert.specs.declared.verdict.Side.{Side}
use Rattle.bb_cert.specs.declared.verdict.Side.TheVariants.{L, R}
use Rattle.bb_cert.specs.declared.verdict.Verdict.{Verdict}
use Rattle.bb_sim.specs.Runner.{position_of}
use Rattle.bb_cert.specs.records.Follow.{IsKeptInStateOf}
use Rattle.bb_decide.specs.inside.Follow.{Compares, IsReady}
use Rattle.bb_registers.specs.declared.run.RegisterRun.{RegisterRun}
use Rattle.bb_registers.specs.Registers.{IsRegisterRun}
use Rattle.bb_decide.specs.declared.register_records.RegisterRecords.{RegisterRecords}

-- of two heads' bits that of the one less far out on a side
abbrev pub nearer_bit : Side → ℕ → ℕ → ℕ
nearer_bit R a b = min a b
nearer_bit L a b = max a b

-- the registers keep what these records, and what was saved of the tape, say
pub record KeepsRecord (table : Table) (bounds : Bounds) (side : Side) (held : RegisterRecords)
    (records : Records) (saved : TapeView) : Type 0 where
  pub is_run : IsRegisterRun table bounds held.kept
  pub kept : records.kept ≡ is_run.runner
  pub saved_is : saved ≡ is_run.view
  pub side_is : records.side ≡ side
  pub place : ℕ
  pub within : place < 64
  pub nearest : held.nearest ≡ 2 ^ place
  pub nearest_is : records.nearest ≡ pos place -ℤ pos 32

-- the record that a run has just made can be compared with the kept one
pub record CanCompareRecord (table : Table) (bounds : Bounds) (side : Side) (held : RegisterRecords)
    (run : RegisterRun) : Type 0 where
  pub records : Records
  pub saved : TapeView
  pub keeps : KeepsRecord table bounds side held records saved
  pub is_run : IsRegisterRun table bounds run
  pub ready : IsReady records is_run.runner saved is_run.view

-- these are the positions of the two heads
pub record KnowsHeads (table : Table) (bounds : Bounds) (side : Side) (held : RegisterRecords)
    (run : RegisterRun) (kept head : ℤ) : Type 0 where
  pub comparison : CanCompareRecord table bounds side held run
  pub kept_is : kept ≡ position_of comparison.records.kept
  pub head_is : head ≡ position_of comparison.is_run.runner

-- and a record is kept in the state in which the run is
pub record CanCompareCells (table : Table) (bounds : Bounds) (side : Side) (held : RegisterRecords)
    (run : RegisterRun) (kept head : ℤ) : Type 0 where
  pub known : KnowsHeads table bounds side held run kept head
  pub same : IsKeptInStateOf known.comparison.records known.comparison.is_run.runner

-- it was compared, and kept in its turn
pub record HasCompared {table : Table} {bounds : Bounds} {side : Side} {old : RegisterRecords} {run : RegisterRun}
    (can : CanCompareRecord table bounds side old run) (new : RegisterRecords) (found : Option Verdict)
    : Type 0 where
  pub records : Records
  pub saved : TapeView
  pub keeps : KeepsRecord table bounds side new records saved
  pub compared : Compares can.records can.is_run.runner can.is_run.view can.saved records saved found
