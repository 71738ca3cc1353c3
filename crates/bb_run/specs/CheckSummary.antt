-- What checking the lines of a list is summed up in: this project's own.
use Rattle.std.specs.Prelude.{◌≡◌, ℕ, ◌≤◌, ◌⊎◌, ◌↔◌, IsTrue, List}
use Rattle.std.specs.List.{AllByRecursion}
use Rattle.bb_machine.specs.Limits.{Bounds}
use Rattle.bb_machine.specs.Machine.{Table}
use Rattle.bb_sim.specs.declared.meter.Meter.{Meter}
use Rattle.bb_sim.specs.Span.{IsLastInside}
use Rattle.bb_cert.specs.declared.checker.answer.Answer.TheVariants.{Ok, Open}
use Rattle.bb_cert.specs.declared.verdict.reader.Line.TheVariants.{Claim}
use Rattle.bb_cert.specs.declared.verdict.Verdict.{Verdict}
use Rattle.bb_cert.specs.checker.Answer.{IsAnswer, answer_text}
use Rattle.bb_cert.specs.checker.ClaimMeter.{IsReplayed, IsReplaySpan, last_step, levels_of, nodes_of}
use Rattle.bb_cert.specs.checker.ClaimMeter.{replay_bounds}
use Rattle.bb_cert.specs.verdict.Line.{IsLineOf}
use Rattle.bb_run.specs.declared.summary.Summary.{Summary}
use Rattle.bb_run.specs.CheckReply.{IsCheckReply}
use Rattle.bb_run.specs.Summary.{IsPeak}

-- the reply to the line is `ok` or `open`: it is not `bad`, `over` or `unread`
pub record IsFine (bounds : Bounds) (line : List ℕ) : Type 0 where
  pub reply : List ℕ
  pub is_reply : IsCheckReply bounds line reply
  pub is_fine : (reply ≡ answer_text Ok) ⊎ (reply ≡ answer_text Open)

-- the line claims so many steps, levels and nodes, and its claim is answered ok
pub record IsOkOf (bounds : Bounds) (line : List ℕ) (steps levels nodes : ℕ) : Type 0 where
  pub table : Table
  pub verdict : Verdict
  pub of : IsLineOf (Claim table verdict) line
  pub is_ok : IsAnswer table bounds verdict Ok
  pub steps_are : steps ≡ last_step verdict
  pub levels_are : levels ≡ levels_of verdict
  pub nodes_are : nodes ≡ nodes_of verdict

-- no claim that is answered ok has more steps, levels or nodes
abbrev pub AreOksWithin : Bounds → List (List ℕ) → Meter → Type 0
AreOksWithin bounds lines peak = AllByRecursion (λ line. (steps levels nodes : ℕ)
    → IsOkOf bounds line steps levels nodes
    → (steps ≤ peak.steps) × (levels ≤ peak.most_levels) × (nodes ≤ peak.nodes)) lines

-- the line's claim is replayed, up to this step
pub record IsReplayOf (bounds : Bounds) (line : List ℕ) (step : ℕ) : Type 0 where
  pub table : Table
  pub verdict : Verdict
  pub of : IsLineOf (Claim table verdict) line
  pub is_replayed : IsReplayed bounds verdict
  pub is_last : IsLastInside table (replay_bounds bounds verdict) step

-- the line's claim is replayed, in a window of this width
pub record IsWindowOf (bounds : Bounds) (line : List ℕ) (width : ℕ) : Type 0 where
  pub table : Table
  pub verdict : Verdict
  pub of : IsLineOf (Claim table verdict) line
  pub is_width : IsReplaySpan table bounds verdict width

-- no count is greater than its bound
pub record IsWithinBounds (bounds : Bounds) (peak : Meter) : Type 0 where
  pub steps : peak.steps ≤ bounds.steps
  pub cells : peak.most_cells ≤ bounds.cells
  pub levels : peak.most_levels ≤ bounds.depth
  pub nodes : peak.nodes ≤ bounds.nodes

-- `clean` means that each reply is `ok` or `open`; the peaks are within the bounds, and no less than those of
-- each claim answered ok; that of steps is the last step of the longest replay, that of cells the widest window
-- of one
pub record IsCheckSummary (bounds : Bounds) (lines : List (List ℕ)) (summary : Summary) : Type 0 where
  pub clean : IsTrue summary.clean ↔ AllByRecursion (IsFine bounds) lines
  pub oks : AreOksWithin bounds lines summary.peak
  pub steps : IsPeak (IsReplayOf bounds) lines summary.peak.steps
  pub cells : IsPeak (IsWindowOf bounds) lines summary.peak.most_cells
  pub within : IsWithinBounds bounds summary.peak
