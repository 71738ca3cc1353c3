-- The progress of the searches, for the functions of this crate. No public contract cites it.
use Rattle.std.specs.Prelude.{◌≡◌, ◌≢◌, ℕ, ◌+◌, ◌*◌, ◌≤◌, ℤ}
use Rattle.bb_machine.specs.declared.entry.Next.TheVariants.{Halt}
use Rattle.bb_machine.specs.Limits.{Bounds}
use Rattle.bb_machine.specs.Machine.{Table}
use Rattle.bb_tape.specs.TapeView.{TapeView}
use Rattle.bb_sim.specs.declared.runner.Runner.{Runner}
use Rattle.bb_sim.specs.Runner.{Stands, position_of, state_of, steps_of}
use Rattle.bb_registers.specs.Registers.{FitsRegisters}
use Rattle.bb_cert.specs.declared.records.Records.{Records}
use Rattle.bb_cert.specs.declared.verdict.Side.{Side}
use Rattle.bb_cert.specs.declared.verdict.Side.TheVariants.{L, R}
use Rattle.bb_decide.specs.Cycle.{IsCycle}
use Rattle.bb_decide.specs.Fingerprint.{fingerprint}
use Rattle.bb_decide.specs.SinglePassCost.{LooksAgain}
use Rattle.bb_decide.specs.Partner.{IsKept}
use Rattle.bb_decide.specs.Translation.{IsTranslation}
use Rattle.bb_decide.specs.inside.Follow.{IsSearched}
use Rattle.bb_decide.specs.declared.single_pass.Fingerprints.{Fingerprints}
use Rattle.bb_decide.specs.declared.single_pass.SinglePass.{SinglePass}

-- the search for cycles is at the step where a runner stands: the partner of the next step is kept, and no
-- step up to here is a cycle
pub record IsInCycleSearch (table : Table) (bounds : Bounds) (runner kept : Runner)
    (view view_kept : TapeView) : Type 0 where
  pub stands : Stands table runner view
  pub within : steps_of runner ≤ bounds.steps
  pub kept_stands : Stands table kept view_kept
  pub partner : IsKept (steps_of kept) (steps_of runner)
  pub none : (a t : ℕ) → t ≤ steps_of runner → IsCycle table bounds a t → ⊥

-- the records of both sides up to step n are known, and the partner of the next one of each is kept
pub record AreSearched (table : Table) (n : ℕ) (right left : Records) (saved_right saved_left : TapeView)
    : Type 0 where
  pub on_right : IsSearched table n right saved_right
  pub on_left : IsSearched table n left saved_left
  pub right_is : right.side ≡ R
  pub left_is : left.side ≡ L

-- the search for records is at the step where a runner stands: the records of both sides are known up to
-- there, and none of them agrees with its partner
pub record IsInRecordSearch (table : Table) (bounds : Bounds) (runner : Runner) (view : TapeView)
    (right left : Records) (saved_right saved_left : TapeView) : Type 0 where
  pub stands : Stands table runner view
  pub within : steps_of runner ≤ bounds.steps
  pub searched : AreSearched table (steps_of runner) right left saved_right saved_left
  pub none : (side : Side) (a b : ℕ) → b ≤ steps_of runner → IsTranslation table bounds side a b → ⊥

-- the single-pass run is at the step where a runner stands, not in Z: the fingerprint is that of its tape;
-- the other is that of a tape on which the kept runner stood, the partner of the next step; no step up to
-- here is a cycle; none that left the registers has its partner's fingerprint; and the next one has left them
pub record IsInSinglePass (table : Table) (bounds : Bounds) (key : ℤ → ℕ) (runner : Runner) (view : TapeView)
    (fingerprints : Fingerprints) : Type 0 where
  pub kept_view : TapeView
  pub search : IsInCycleSearch table bounds runner fingerprints.kept view kept_view
  pub current_is : fingerprints.current ≡ fingerprint key view.content
  pub kept_fingerprint_is : fingerprints.kept_fingerprint ≡ fingerprint key kept_view.content
  pub next : fingerprints.next ≡ 2 * steps_of fingerprints.kept
  pub none_alike : (p t : ℕ) → t ≤ steps_of runner → LooksAgain key table p t → ⊥
  pub running : state_of runner ≢ Halt
  pub wide : FitsRegisters table (steps_of runner + 1) → ⊥

-- so it is, with the searches for cycles and for records, on these tapes
pub record IsUnderWay (table : Table) (bounds : Bounds) (key : ℤ → ℕ) (begun : SinglePass)
    (run right left : TapeView) : Type 0 where
  pub search : IsInRecordSearch table bounds begun.runner run begun.right begun.left right left
  pub single_pass : IsInSinglePass table bounds key begun.runner run begun.fingerprints

-- two records of a side that say the same of a run, each with the tape that it keeps
pub record AreSameRecords (table : Table) (one : Records) (one_saved : TapeView) (other : Records)
    (other_saved : TapeView) : Type 0 where
  pub side : one.side ≡ other.side
  pub state : state_of one.kept ≡ state_of other.kept
  pub position : position_of one.kept ≡ position_of other.kept
  pub steps : steps_of one.kept ≡ steps_of other.kept
  pub nearest : one.nearest ≡ other.nearest
  pub saved : one_saved ≡ other_saved
