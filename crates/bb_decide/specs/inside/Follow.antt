-- The progress of the search for agreeing records, for its functions. No public contract cites it.
use Rattle.std.specs.Prelude.{◌≡◌, ℕ, ◌⊎◌, Bool, IfOk, IfSome, IsTrue, OnErr, Option, Some, None, Result}
use Rattle.std.specs.Prelude.{pos, ◌*ℤ◌, ◌<ℤ◌, ◌≤ℤ◌}
use Rattle.bb_machine.specs.Machine.{Table}
use Rattle.bb_tape.specs.TapeView.{TapeView}
use Rattle.bb_tape.specs.declared.tape.Memory.{Memory}
use Rattle.bb_sim.specs.declared.runner.Runner.{Runner}
use Rattle.bb_sim.specs.declared.meter.Meter.{Meter}
use Rattle.bb_sim.specs.Runner.{position_of, steps_of}
use Rattle.bb_cert.specs.declared.records.Records.{Records}
use Rattle.bb_cert.specs.declared.verdict.Extent.{Extent}
use Rattle.bb_cert.specs.declared.verdict.Side.{Side}
use Rattle.bb_cert.specs.declared.verdict.Side.TheVariants.{L, R}
use Rattle.bb_cert.specs.declared.verdict.Verdict.{Verdict}
use Rattle.bb_cert.specs.declared.verdict.Verdict.TheVariants.{Translated}
use Rattle.bb_cert.specs.verdict.Verdict.{HasNumbers}
use Rattle.bb_cert.specs.records.Follow.{AgreesWithKept, IsComparable, IsFollowed, IsKeptInStateOf, IsNarrow}
use Rattle.bb_cert.specs.records.Follow.{IsWidened, LiesAs, number_of, top_of, with_kept}
use Rattle.bb_decide.specs.Partner.{IsKept}
use Rattle.bb_decide.specs.inside.Step.{TakesOver}

-- the records of a side up to step n are known, and the partner of the next one is kept
pub record IsSearched (table : Table) (n : ℕ) (records : Records) (saved : TapeView) : Type 0 where
  pub followed : IsFollowed table n records saved
  pub partner : IsKept followed.number followed.count

-- the record that the runner has just made can be compared with the kept one
pub record IsReady (records : Records) (runner : Runner) (saved run : TapeView) : Type 0 where
  pub kept_out : pos 0 ≤ℤ number_of records
  pub head_out : pos 0 ≤ℤ top_of records runner
  pub held : IsNarrow (position_of records.kept)
  pub comparable : IsKeptInStateOf records runner → IsComparable records runner saved run

-- it is kept, in what the run has, where its number is at least twice that of the kept one, which stays
-- elsewhere
abbrev pub KeepsByTurn : Records → Runner → TapeView → TapeView → Records → TapeView → Type 0
KeepsByTurn old runner run saved new new_saved =
    (((pos 2 *ℤ number_of old) ≤ℤ top_of old runner) × (new ≡ with_kept old runner) × (new_saved ≡ run))
    ⊎ ((top_of old runner <ℤ (pos 2 *ℤ number_of old)) × (new ≡ old) × IsWidened old run saved new_saved)

-- a verdict with the kept record and the one that the runner has just made, and their extent
pub record TellsPair (records : Records) (runner : Runner) (verdict : Verdict) : Type 0 where
  pub extent : Extent
  pub is : verdict ≡ Translated records.side (steps_of records.kept) (steps_of runner) (Some extent)
  pub lies : LiesAs records runner extent

-- the two, if they agree; none exactly if they do not
abbrev pub Compares : Records → Runner → TapeView → TapeView → Records → TapeView → Option Verdict → Type 0
Compares old runner run saved new new_saved None =
    (AgreesWithKept old runner saved run → ⊥) × KeepsByTurn old runner run saved new new_saved
Compares old runner run saved new new_saved (Some verdict) =
    AgreesWithKept old runner saved run × TellsPair old runner verdict

-- the promise on comparing the record that the runner has just made: its result, for the same side, on a tape
-- with the same room; an allocation can fail only on a tape that grows, and only then the meter adds the run
pub record ComparesOnSide (grows : Bool) (old : Records) (runner : Runner) (run saved : TapeView)
    (new : Records) (new_saved : TapeView) (meter_old meter_new : Meter)
    (result : Result (Option Verdict) Memory) : Type 0 where
  pub compared : IfOk result (Compares old runner run saved new new_saved)
  pub numbers : IfOk result (λ found. IfSome found HasNumbers)
  pub side : new.side ≡ old.side
  pub limit : new_saved.limit ≡ saved.limit
  pub memory : OnErr result (IsTrue grows)
  pub uncounted : IfOk result (λ found. meter_new ≡ meter_old)
  pub cut : OnErr result (TakesOver runner meter_old meter_new)

-- what is meant for a side
abbrev pub on_side : {A : Type 0} → Side → A → A → A
on_side R right left = right
on_side L right left = left

-- the records of one side were compared, with a verdict or not; those of the other stay
abbrev pub ComparesRecord : Side → Runner → TapeView → Records → Records → TapeView → TapeView
    → Records → Records → TapeView → TapeView → Option Verdict → Type 0
ComparesRecord R runner run right left saved_right saved_left
    new_right new_left new_saved_right new_saved_left found =
    Compares right runner run saved_right new_right new_saved_right found
    × (new_right.side ≡ right.side) × (new_left ≡ left) × (new_saved_left ≡ saved_left)
ComparesRecord L runner run right left saved_right saved_left
    new_right new_left new_saved_right new_saved_left found =
    Compares left runner run saved_left new_left new_saved_left found
    × (new_left.side ≡ left.side) × (new_right ≡ right) × (new_saved_right ≡ saved_right)
