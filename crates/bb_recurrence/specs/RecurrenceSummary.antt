-- The summary of the recurrences of a list: this project's own.
use Rattle.std.specs.Prelude.{◌≡◌, ℕ, ◌+◌, ◌*◌, ◌<◌, ◌≤◌, ◌⊎◌, ◌↔◌, IsTrue, List}
use Rattle.std.specs.List.{AllByRecursion}
use Rattle.bb_machine.specs.Limits.{Bounds}
use Rattle.bb_machine.specs.Machine.{Table}
use Rattle.bb_cert.specs.declared.checker.answer.Answer.TheVariants.{Ok}
use Rattle.bb_cert.specs.declared.verdict.reader.Line.{Line}
use Rattle.bb_cert.specs.declared.verdict.reader.Line.TheVariants.{Claim, Refusal}
use Rattle.bb_cert.specs.declared.verdict.Verdict.{Verdict}
use Rattle.bb_cert.specs.checker.Answer.{IsAnswer}
use Rattle.bb_cert.specs.checker.ClaimMeter.{IsReplaySpan}
use Rattle.bb_cert.specs.verdict.Line.{IsLineOf}
use Rattle.bb_run.specs.declared.summary.Summary.{Summary}
use Rattle.bb_run.specs.Summary.{IsPeak}
use Rattle.bb_recurrence.specs.Finding.{IsPair, NamesNone, NamesPair}

-- a line's content has no pair, or one that the checker confirms
abbrev pub IsFineContent : Bounds → Line → Type 0
IsFineContent bounds (Claim table verdict) = NamesNone verdict ⊎ IsAnswer table bounds verdict Ok
IsFineContent bounds (Refusal column) = Unit {0}

-- so the reply to the line isn't `bad`, `over` or `unread`
pub record IsFine (bounds : Bounds) (line : List ℕ) : Type 0 where
  pub said : Line
  pub of : IsLineOf said line
  pub fine : IsFineContent bounds said

-- the line is that of a pair of these steps that the checker confirms
pub record IsConfirmedOf (bounds : Bounds) (line : List ℕ) (first second : ℕ) : Type 0 where
  pub table : Table
  pub verdict : Verdict
  pub of : IsLineOf (Claim table verdict) line
  pub names : NamesPair verdict first second
  pub is_ok : IsAnswer table bounds verdict Ok

-- so many steps are enough to check a pair, and to find the start and the last uses
pub record AreEnough (first second steps : ℕ) : Type 0 where
  pub short : second ≤ 4096 → second ≤ steps
  pub long : 4096 < second → second + (first + second) ≤ steps

-- no confirmed pair takes more than these
abbrev pub AreConfirmedWithin : Bounds → List (List ℕ) → ℕ → Type 0
AreConfirmedWithin bounds lines steps = AllByRecursion (λ line. (first second : ℕ)
    → IsConfirmedOf bounds line first second → AreEnough first second steps) lines

-- the line's pair is replayed, in a window of this width
pub record IsPairWindowOf (bounds : Bounds) (line : List ℕ) (width : ℕ) : Type 0 where
  pub table : Table
  pub verdict : Verdict
  pub of : IsLineOf (Claim table verdict) line
  pub pair : IsPair verdict
  pub is_width : IsReplaySpan table bounds verdict width

-- `clean` means that each reply is that of a recurrence, or `open`; the peak of steps is no less than the
-- steps of each confirmed pair, and at most 160 times the limit; that of cells is the widest window of a
-- replay; no backward tree is walked
pub record IsRecurrenceSummary (bounds : Bounds) (lines : List (List ℕ)) (summary : Summary) : Type 0 where
  pub clean : IsTrue summary.clean ↔ AllByRecursion (IsFine bounds) lines
  pub steps : AreConfirmedWithin bounds lines summary.peak.steps
  pub few_steps : summary.peak.steps ≤ 160 * bounds.steps
  pub cells : IsPeak (IsPairWindowOf bounds) lines summary.peak.most_cells
  pub few_cells : summary.peak.most_cells ≤ bounds.cells
  pub no_levels : summary.peak.most_levels ≡ 0
  pub no_nodes : summary.peak.nodes ≡ 0
