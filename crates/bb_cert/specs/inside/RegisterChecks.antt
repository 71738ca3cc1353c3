-- Definitions for the checker in registers. No public contract cites them.
use Rattle.std.specs.Prelude.{◌≡◌, ℕ, ◌<◌, ◌≤◌, Option, pos}
use Rattle.bb_machine.specs.Limits.{Bounds}
use Rattle.bb_machine.specs.Machine.{Table}
use Rattle.bb_tape.specs.TapeView.{TapeView}
use Rattle.bb_sim.specs.declared.simulation.Outcome.{Outcome}
use Rattle.bb_sim.specs.declared.simulation.Outcome.TheVariants.{Halt, NoCells, NoSteps}
use Rattle.bb_sim.specs.Runner.{position_of}
use Rattle.bb_sim.specs.Span.{span}
use Rattle.bb_cert.specs.declared.checker.answer.Answer.{Answer}
use Rattle.bb_cert.specs.declared.checker.answer.Answer.TheVariants as answer
use Rattle.bb_cert.specs.declared.checker.pairs.RecordPair.{RecordPair}
use Rattle.bb_cert.specs.declared.checker.replay.ReplayState.{ReplayState}
use Rattle.bb_cert.specs.declared.verdict.Extent.{Extent}
use Rattle.bb_cert.specs.declared.verdict.Side.{Side}
use Rattle.bb_cert.specs.declared.verdict.Verdict.{Verdict}
use Rattle.bb_cert.specs.declared.verdict.Verdict.TheVariants.{Cycler, Translated}
use Rattle.bb_cert.specs.claims.Claim.{Claim}
use Rattle.bb_cert.specs.inside.Checks.{GoesOn, IsReplay, KeepsStep}

-- what a run that ends before its limit of steps answers to each claim of a pair up to there
abbrev pub AnswersPairs : Table → Bounds → Answer → Type 0
AnswersPairs table bounds answer.Bad = (span table bounds.steps ≤ bounds.cells)
    × ((first : ℕ) → Claim table (Cycler first bounds.steps) → ⊥)
    × ((side : Side) (first : ℕ) (extent : Option Extent)
    → Claim table (Translated side first bounds.steps extent) → ⊥)
AnswersPairs table bounds answer.Over = bounds.cells < span table bounds.steps
AnswersPairs table bounds answer.Ok = ⊥
AnswersPairs table bounds answer.Open = ⊥

-- its answer, by its outcome
abbrev pub answer_of : Outcome → Answer
answer_of (Halt steps score) = answer.Bad
answer_of NoSteps = answer.Bad
answer_of NoCells = answer.Over

-- the records of a side are known up to step n, and none is kept
pub record IsFollowedFromStart (table : Table) (side : Side) (n : ℕ) (replay : ReplayState) : Type 0 where
  pub known : (saved : TapeView) → IsReplay table n replay saved
  pub none_kept : position_of replay.records.kept ≡ pos 0
  pub side_is : replay.records.side ≡ side

-- they are known up to this step, whose record is kept, if it makes one
pub record IsKeptAt (table : Table) (side : Side) (step : ℕ) (replay : ReplayState) (saved : TapeView)
    : Type 0 where
  pub known : IsReplay table step replay saved
  pub keeps : KeepsStep table step replay.records
  pub side_is : replay.records.side ≡ side

-- and so up to a later one, with the same record kept
pub record IsKeptUpTo (table : Table) (side : Side) (step n : ℕ) (replay : ReplayState) (saved : TapeView)
    : Type 0 where
  pub old : ReplayState
  pub kept : IsKeptAt table side step old saved
  pub goes : GoesOn table step n old replay

-- the verdict of a claim of records
abbrev pub claim_up_to : ℕ → RecordPair → Verdict
claim_up_to second claim = Translated claim.side claim.first second claim.extent

-- with the limit of steps as its second step
abbrev pub claim_of : Bounds → RecordPair → Verdict
claim_of bounds claim = claim_up_to bounds.steps claim
