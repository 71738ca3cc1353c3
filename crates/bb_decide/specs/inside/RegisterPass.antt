-- A single-pass run in registers, for the functions of this crate. No public contract cites it.
use Rattle.std.specs.Prelude.{◌≡◌, ◌+◌, ◌-◌, ◌*◌, ◌<◌, ◌≤◌, ◌⊎◌, Option, Some, None}
use Rattle.bb_machine.specs.Limits.{Bounds}
use Rattle.bb_machine.specs.Machine.{Table}
use Rattle.bb_tape.specs.TapeView.{TapeView}
use Rattle.bb_registers.specs.declared.run.RegisterRun.{RegisterRun}
use Rattle.bb_registers.specs.Registers.{EndsWith, FitsRegisters, IsRegisterRun}
use Rattle.bb_cert.specs.declared.records.Records.{Records}
use Rattle.bb_cert.specs.declared.verdict.Side.TheVariants.{L, R}
use Rattle.bb_cert.specs.verdict.Verdict.{HasNumbers}
use Rattle.bb_decide.specs.Cycle.{FindsCycle, HasNoCycle}
use Rattle.bb_decide.specs.Fingerprint.{named_step}
use Rattle.bb_decide.specs.Translation.{FindsTranslation, HasNoTranslation}
use Rattle.bb_decide.specs.inside.RegisterRecords.{KeepsRecord}
use Rattle.bb_decide.specs.inside.Searching.{IsInCycleSearch, IsInRecordSearch}
use Rattle.bb_decide.specs.declared.register_records.RegisterRecords.{RegisterRecords}
use Rattle.bb_decide.specs.declared.register_pass.KeptRun.{KeptRun}
use Rattle.bb_decide.specs.declared.register_pass.RegisterPass.{RegisterPass}
use Rattle.bb_decide.specs.declared.register_pass.RegisterResult.{RegisterResult}
use Rattle.bb_decide.specs.declared.register_pass.RegisterResult.TheVariants.{Found, Ran, Outside}

-- a run in registers, with what is kept of it: no step up to there is a cycle, and no record agrees with its
-- partner
pub record IsPassIn (table : Table) (bounds : Bounds) (run : RegisterRun) (kept : KeptRun)
    (right left : RegisterRecords) : Type 0 where
  pub is_run : IsRegisterRun table bounds run
  pub kept_is_run : IsRegisterRun table bounds kept.run
  pub search : IsInCycleSearch table bounds is_run.runner kept_is_run.runner is_run.view kept_is_run.view
  pub before_next : kept.before_next ≡ 2 * kept.run.steps - 1
  pub right_records : Records
  pub left_records : Records
  pub saved_right : TapeView
  pub saved_left : TapeView
  pub follows : IsInRecordSearch table bounds is_run.runner is_run.view right_records left_records saved_right
      saved_left
  pub keeps_right : KeepsRecord table bounds R right right_records saved_right
  pub keeps_left : KeepsRecord table bounds L left left_records saved_left

abbrev pub IsInRegisterPass : Table → Bounds → RegisterPass → Type 0
IsInRegisterPass table bounds pass = IsPassIn table bounds pass.run pass.kept pass.right pass.left

-- the first cycle, or the first records that agree, with the last step of the run; else as any run ends, and
-- there is neither; or the next step leaves the registers
abbrev pub EndsRegisterPass : Table → Bounds → RegisterPass → RegisterResult → Type 0
EndsRegisterPass table bounds pass (Found verdict) =
    (FindsCycle table bounds (Some verdict) ⊎ FindsTranslation table bounds (Some verdict))
    × (named_step bounds verdict ≡ pass.run.steps) × HasNumbers verdict
EndsRegisterPass table bounds pass (Ran outcome) =
    ((known : IsRegisterRun table bounds pass.run) → EndsWith known outcome)
    × HasNoCycle table bounds × HasNoTranslation table bounds
EndsRegisterPass table bounds pass Outside =
    IsInRegisterPass table bounds pass × (FitsRegisters table (pass.run.steps + 1) → ⊥)

-- a call makes the next step, or the run ends
abbrev pub AdvancesPass : Table → Bounds → RegisterPass → RegisterPass → Option RegisterResult → Type 0
AdvancesPass table bounds old new None =
    IsInRegisterPass table bounds new × (new.run.steps ≡ old.run.steps + 1)
AdvancesPass table bounds old new (Some result) =
    IsRegisterRun table bounds new.run × EndsRegisterPass table bounds new result

-- a run is kept at the step that is next
abbrev pub KeepsRunInTurn : RegisterRun → KeptRun → KeptRun → Type 0
KeepsRunInTurn run old new = ((run.steps ≤ old.before_next) × (new ≡ old))
    ⊎ ((old.before_next < run.steps) × (new ≡ record { run = run; before_next = 2 * run.steps - 1 }))
