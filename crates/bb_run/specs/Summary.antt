-- What a run over lines is summed up in: this project's own.
use Rattle.std.specs.Prelude.{◌≡◌, ℕ, ◌≤◌, ◌⊎◌, ◌↔◌, IsTrue, List, [], ◌∷◌}
use Rattle.std.specs.List.{AllByRecursion}
use Rattle.bb_machine.specs.Limits.{Bounds}
use Rattle.bb_machine.specs.Machine.{Table, IsMachineLine, IsTextOf}
use Rattle.bb_sim.specs.Span.{span, IsLastInside}
use Rattle.bb_cert.specs.declared.verdict.Verdict.TheVariants.{Backward}
use Rattle.bb_machine.specs.declared.plan.Plan.{Plan}
use Rattle.bb_decide.specs.Verdict.{IsVerdict}
use Rattle.bb_decide.specs.Cost.{IsWithinCost, DecisionSteps}
use Rattle.bb_decide.specs.FingerprintKeys.{spread}
use Rattle.bb_decide.specs.SinglePassCost.{MakesRuns}
use Rattle.bb_run.specs.declared.summary.Summary.{Summary}

-- the line is the text of a machine that is decided by so many steps
pub record AreStepsOf (bounds : Bounds) (plan : Plan) (line : List ℕ) (steps : ℕ) : Type 0 where
  pub table : Table
  pub of : IsTextOf table line
  pub are_steps : DecisionSteps table bounds plan steps

-- the line is the text of a machine whose run inside the bounds has this span
pub record IsSpanOf (bounds : Bounds) (line : List ℕ) (width : ℕ) : Type 0 where
  pub table : Table
  pub of : IsTextOf table line
  pub last : ℕ
  pub is_last : IsLastInside table bounds last
  pub is_span : width ≡ span table last

-- the line is the text of a machine that is decided in a single pass by so many steps, with the program's keys
pub record AreRunStepsOf (bounds : Bounds) (plan : Plan) (line : List ℕ) (steps : ℕ) : Type 0 where
  pub table : Table
  pub of : IsTextOf table line
  pub latest : ℕ
  pub are_steps : MakesRuns spread table bounds plan.cyclers plan.translated steps latest

-- the line is the text of a machine with this span at the last step of any run made for deciding it in one
-- run
pub record IsRunSpanOf (bounds : Bounds) (plan : Plan) (line : List ℕ) (width : ℕ) : Type 0 where
  pub table : Table
  pub of : IsTextOf table line
  pub steps : ℕ
  pub latest : ℕ
  pub runs : MakesRuns spread table bounds plan.cyclers plan.translated steps latest
  pub is_span : width ≡ span table latest

-- the line is the text of a machine whose verdict is a tree of so many levels and nodes
pub record IsTreeOf (bounds : Bounds) (plan : Plan) (line : List ℕ) (levels nodes : ℕ) : Type 0 where
  pub table : Table
  pub of : IsTextOf table line
  pub is_verdict : IsVerdict table bounds plan (Backward levels nodes)

-- no tree that is a line's verdict has more levels or nodes
abbrev pub AreTreesWithin : Bounds → Plan → List (List ℕ) → ℕ → ℕ → Type 0
AreTreesWithin bounds plan lines most_levels most_nodes = AllByRecursion (λ line. (levels nodes : ℕ)
    → IsTreeOf bounds plan line levels nodes → (levels ≤ most_levels) × (nodes ≤ most_nodes)) lines

-- some line has this count
abbrev pub SomeHas : (List ℕ → ℕ → Type 0) → List (List ℕ) → ℕ → Type 0
SomeHas Count [] n = ⊥
SomeHas Count (line ∷ lines) n = Count line n ⊎ SomeHas Count lines n

-- the greatest of the lines' counts, 0 where no line has one
pub record IsPeak (Count : List ℕ → ℕ → Type 0) (lines : List (List ℕ)) (peak : ℕ) : Type 0 where
  pub bound : AllByRecursion (λ line. (n : ℕ) → Count line n → n ≤ peak) lines
  pub reached : (peak ≡ 0) ⊎ SomeHas Count lines peak

-- `clean` means that each line is a machine's text; the peaks are those of the lines' steps and cells,
-- however they are counted; those of levels and nodes are no less than those of each tree that is a verdict;
-- and none is more than deciding a machine may cost
pub record IsSummed (bounds : Bounds) (plan : Plan) (Steps Cells : List ℕ → ℕ → Type 0)
    (lines : List (List ℕ)) (summary : Summary) : Type 0 where
  pub clean : IsTrue summary.clean ↔ AllByRecursion IsMachineLine lines
  pub steps : IsPeak Steps lines summary.peak.steps
  pub cells : IsPeak Cells lines summary.peak.most_cells
  pub trees : AreTreesWithin bounds plan lines summary.peak.most_levels summary.peak.nodes
  pub within : IsWithinCost bounds summary.peak

-- counted are the machines' steps and spans
abbrev pub IsSummary : Bounds → Plan → List (List ℕ) → Summary → Type 0
IsSummary bounds plan = IsSummed bounds plan (AreStepsOf bounds plan) (IsSpanOf bounds)

-- for deciding each machine in a single pass, those of the runs made
abbrev pub IsSinglePassSummary : Bounds → Plan → List (List ℕ) → Summary → Type 0
IsSinglePassSummary bounds plan = IsSummed bounds plan (AreRunStepsOf bounds plan) (IsRunSpanOf bounds plan)
