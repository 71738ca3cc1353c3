-- The run of a claim, in registers or on a tape. No public contract cites these.
use Rattle.std.specs.Prelude.{◌≡◌, ℕ, ◌≤◌, Option, Some, None}
use Rattle.bb_machine.specs.Limits.{Bounds}
use Rattle.bb_machine.specs.Machine.{Table, symbols_of}
use Rattle.bb_tape.specs.TapeView.{TapeView}
use Rattle.bb_sim.specs.declared.meter.Meter.{Meter}
use Rattle.bb_sim.specs.declared.runner.Runner.{Runner}
use Rattle.bb_sim.specs.Meter.{CountsRun, zero_meter}
use Rattle.bb_sim.specs.Runner.{Stands, steps_of}
use Rattle.bb_registers.specs.declared.run.RegisterRun.{RegisterRun}
use Rattle.bb_machine.specs.Packed.{IsTableOf}
use Rattle.bb_registers.specs.Registers.{IsRegisterRun}
use Rattle.bb_cert.specs.declared.checker.answer.Answer.{Answer}
use Rattle.bb_cert.specs.declared.checker.run.RunWithTable.{RunWithTable}
use Rattle.bb_cert.specs.declared.checker.run.Run.{Run}
use Rattle.bb_cert.specs.declared.checker.run.Run.TheVariants.{InRegisters, OnTape}
use Rattle.bb_cert.specs.declared.checker.run.Progress.{Progress}
use Rattle.bb_cert.specs.declared.checker.run.Progress.TheVariants.{There, Cut, Outside}
use Rattle.bb_cert.specs.inside.Checks.{IsUnderWay}
use Rattle.bb_cert.specs.declared.checker.replay.ReplayState.{ReplayState}
use Rattle.bb_cert.specs.declared.verdict.Extent.{Extent}
use Rattle.bb_cert.specs.declared.verdict.Side.{Side}
use Rattle.bb_cert.specs.inside.RegisterChecks.{AnswersPairs, IsKeptUpTo}
use Rattle.bb_cert.specs.records.Agree.{AgreeingRecords}
use Rattle.bb_cert.specs.verdict.Extent.{IsExtent}

-- what holds by how far a run came
abbrev pub MatchProgress : Progress → Type 0 → (Answer → Type 0) → Type 0 → Type 0
MatchProgress There there cut outside = there
MatchProgress (Cut answer) there cut outside = cut answer
MatchProgress Outside there cut outside = outside

-- a run that ended on its way answers each claim of a pair up to its limit of steps, and is counted whole
pub record IsAnswered (table : Table) (bounds : Bounds) (meter : Meter) (answer : Answer) : Type 0 where
  pub answers : AnswersPairs table bounds answer
  pub counted : CountsRun table bounds zero_meter meter

-- with some tape and some meter beside it
pub record IsSomewhere (holds : TapeView → Meter → Type 0) : Type 0 where
  pub tape : TapeView
  pub meter : Meter
  pub is : holds tape meter

-- a run is in registers, and nothing of it counted or on the tape beside it
pub record IsRunWithTable (table : Table) (bounds : Bounds) (active : RunWithTable) (tape : TapeView) (meter : Meter)
    : Type 0 where
  pub symbols : symbols_of table ≡ 2
  pub is_table : IsTableOf table active.table
  pub is_run : IsRegisterRun table bounds active.run
  pub uncounted : meter ≡ zero_meter

-- how many steps a run in registers has made
abbrev pub register_steps : RunWithTable → ℕ
register_steps active = active.run.steps

-- a run in registers, with an earlier configuration of it
pub record IsRegisterPair (table : Table) (bounds : Bounds) (active : RunWithTable) (saved : RegisterRun)
    (tape : TapeView) (meter : Meter) : Type 0 where
  pub run : IsRunWithTable table bounds active tape meter
  pub earlier : IsRegisterRun table bounds saved
  pub order : saved.steps ≤ active.run.steps

-- a run is under way, in registers or on the tape beside it
abbrev pub IsRun : Table → Bounds → Run → TapeView → Meter → Type 0
IsRun table bounds (InRegisters active saved) tape meter = IsRegisterPair table bounds active saved tape meter
IsRun table bounds (OnTape runner saved) tape meter = IsUnderWay table bounds runner tape meter

-- how many steps it has made
abbrev pub made_of : Run → ℕ
made_of (InRegisters active saved) = active.run.steps
made_of (OnTape runner saved) = steps_of runner

-- how many it had made at the saved configuration
abbrev pub saved_steps : Run → ℕ
saved_steps (InRegisters active saved) = saved.steps
saved_steps (OnTape runner saved) = steps_of saved

-- the run stands in registers, or on this tape
abbrev pub StandsThere : Table → Bounds → Run → TapeView → Type 0
StandsThere table bounds (InRegisters active saved) tape = IsRegisterRun table bounds active.run
StandsThere table bounds (OnTape runner saved) tape = Stands table runner tape

-- its saved configuration does
abbrev pub StandsSaved : Table → Bounds → Run → TapeView → Type 0
StandsSaved table bounds (InRegisters active saved) tape = IsRegisterRun table bounds saved
StandsSaved table bounds (OnTape runner saved) tape = Stands table saved tape

-- a tape of this view has the configuration of step n, and its window
pub record IsViewAt (table : Table) (n : ℕ) (view : TapeView) : Type 0 where
  pub runner : Runner
  pub stands : Stands table runner view
  pub at : steps_of runner ≡ n

-- the record of a step is kept, if it makes one, and followed to a later one, whatever tape has that step
abbrev pub IsKeptOnAll : Table → Side → ℕ → ℕ → ReplayState → Type 0
IsKeptOnAll table side first second replay =
    (view : TapeView) → IsViewAt table first view → IsKeptUpTo table side first second replay view

-- the extent of two agreeing records, if they agree
abbrev pub MatchExtent : Table → Side → ℕ → ℕ → Option Extent → Type 0
MatchExtent table side first second None = AgreeingRecords table side first second → ⊥
MatchExtent table side first second (Some extent) =
    AgreeingRecords table side first second × IsExtent table side first second extent
