-- Definitions for the functions of the checker. No public contract cites them.
use Rattle.std.specs.Prelude.{◌≡◌, ◌≢◌, ℕ, ◌<◌, ◌≤◌, ◌↔◌, Option, Some, None, IsTrue, pos}
use Rattle.std.proofs.Common.{◌∙◌, refl}
use Rattle.bb_machine.specs.Limits.{Bounds}
use Rattle.bb_machine.specs.Machine.{Table}
use Rattle.bb_tape.specs.TapeView.{TapeView}
use Rattle.bb_sim.specs.declared.meter.Meter.{Meter}
use Rattle.bb_sim.specs.declared.runner.Runner.{Runner}
use Rattle.bb_sim.specs.Meter.{CountsTo, zero_meter}
use Rattle.bb_sim.specs.Laws.{IsRunningAt}
use Rattle.bb_sim.specs.Run.{Exists}
use Rattle.bb_sim.specs.Runner.{Stands, position_of, steps_of}
use Rattle.bb_sim.specs.Span.{Inside, span}
use Rattle.bb_cert.specs.declared.checker.answer.Answer.{Answer}
use Rattle.bb_cert.specs.declared.checker.answer.Answer.TheVariants as answer
use Rattle.bb_cert.specs.declared.checker.replay.ReplayState.{ReplayState}
use Rattle.bb_cert.specs.declared.records.Records.{Records}
use Rattle.bb_cert.specs.declared.verdict.Side.{Side}
use Rattle.bb_cert.specs.declared.verdict.Verdict.{Verdict}
use Rattle.bb_cert.specs.checker.Answer.{IsOutOfOrder, IsSettled, IsUndecided, NamesTooMuch, NeedsTooMuch}
use Rattle.bb_cert.specs.claims.Claim.{Claim}
use Rattle.bb_cert.specs.records.Follow.{IsFollowed, TellsWidening, passed}
use Rattle.bb_cert.specs.records.Record.{IsRecord, head_at}

-- the answer, if it needs no run; none otherwise
abbrev pub Settles : Bounds → Verdict → Option Answer → Type 0
Settles bounds verdict None = IsSettled bounds verdict → ⊥
Settles bounds verdict (Some answer.Open) = IsUndecided verdict
Settles bounds verdict (Some answer.Over) = NamesTooMuch bounds verdict
Settles bounds verdict (Some answer.Bad) = (NamesTooMuch bounds verdict → ⊥) × IsOutOfOrder verdict
Settles bounds verdict (Some answer.Ok) = ⊥

-- the answer where it is not settled so
abbrev pub Checks : Table → Bounds → Verdict → Answer → Type 0
Checks table bounds verdict answer.Over = NeedsTooMuch table bounds verdict
Checks table bounds verdict answer.Ok = (NeedsTooMuch table bounds verdict → ⊥) × Claim table verdict
Checks table bounds verdict answer.Bad =
    (NeedsTooMuch table bounds verdict → ⊥) × (Claim table verdict → ⊥)
Checks table bounds verdict answer.Open = ⊥

-- the reason why a run can't reach its limit of steps: there is no such step, though its span fits; or the
-- span does not fit
abbrev pub IsCut : Table → Bounds → Answer → Type 0
IsCut table bounds answer.Bad = (Exists table bounds.steps → ⊥) × (span table bounds.steps ≤ bounds.cells)
IsCut table bounds answer.Over = bounds.cells < span table bounds.steps
IsCut table bounds answer.Ok = ⊥
IsCut table bounds answer.Open = ⊥

-- a run inside the bounds has reached its runner's configuration, and exactly that was counted
pub record IsUnderWay (table : Table) (bounds : Bounds) (runner : Runner) (view : TapeView) (meter : Meter)
    : Type 0 where
  pub stands : Stands table runner view
  pub inside : Inside table bounds (steps_of runner)
  pub limit : view.limit ≡ bounds.cells
  pub counts : CountsTo table (steps_of runner) zero_meter meter

-- step n makes a record of the side
abbrev pub MakesRecord : Table → Side → ℕ → Type 0
MakesRecord table side n = (j : ℕ) × IsRecord table side j n

-- it does so in a state other than Z
abbrev pub MakesRecordOutsideZ : Table → Side → ℕ → Type 0
MakesRecordOutsideZ table side n = MakesRecord table side n × IsRunningAt table n (head_at table n)

-- the records of a side are known up to step n, and whether it makes one outside Z
pub record IsReplay (table : Table) (n : ℕ) (replay : ReplayState) (saved : TapeView) : Type 0 where
  pub followed : IsFollowed table n replay.records saved
  pub claimed : IsTrue replay.is_record ↔ MakesRecordOutsideZ table replay.records.side n

-- a replay after the runner's last step, before which its window had so many cells
pub record Passes (runner : Runner) (cells : ℕ) (old new : ReplayState) : Type 0 where
  pub records : new.records ≡ passed old.records (position_of runner)
  pub claimed : Option Side
  pub widens : TellsWidening runner cells claimed
  pub is_claimed : IsTrue new.is_record ↔ (claimed ≡ Some old.records.side)

-- the same record is kept
pub record KeepsSame (old new : Records) : Type 0 where
  pub side : new.side ≡ old.side
  pub kept : new.kept ≡ old.kept

-- the same is known of a replay now, up to a later step, with the same record kept
pub record GoesOn (table : Table) (from to : ℕ) (old new : ReplayState) : Type 0 where
  pub replay : (saved : TapeView) → IsReplay table from old saved → IsReplay table to new saved
  pub same : KeepsSame old.records new.records

pub goes_nowhere : {table : Table} {n : ℕ} {replay : ReplayState} → GoesOn table n n replay replay
goes_nowhere = record { replay = λ saved is. is; same = record { side = refl; kept = refl } }

-- courses that follow one another are one
pub goes_further : {table : Table} {a b c : ℕ} {first second third : ReplayState} → GoesOn table a b first second
    → GoesOn table b c second third → GoesOn table a c first third
goes_further one other = record {
  replay = λ saved known. other.replay saved (one.replay saved known);
  same = record {
    side = other.same.side ∙ one.same.side;
    kept = other.same.kept ∙ one.same.kept;
  };
}

-- the record of this step is kept, just where it makes one outside Z
pub record KeepsStep (table : Table) (step : ℕ) (records : Records) : Type 0 where
  pub made : MakesRecordOutsideZ table records.side step → position_of records.kept ≢ pos 0
  pub at : position_of records.kept ≢ pos 0 → steps_of records.kept ≡ step
