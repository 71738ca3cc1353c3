-- The result of a run with a summary: the input read, and the output written by then. This project's own.
use Rattle.std.specs.Prelude.{ℕ, List, Option, Result}
use Rattle.std.specs.Io.KnownBytes.{Appends}
use Rattle.bb_machine.specs.Limits.{Bounds}
use Rattle.bb_lines.specs.declared.fault.Fault.{Fault}
use Rattle.bb_lines.specs.Ends.{AppendsPrefix, ListEnds, MatchEnd}
use Rattle.bb_machine.specs.declared.plan.Plan.{Plan}
use Rattle.bb_run.specs.declared.summary.Summary.{Summary}
use Rattle.bb_run.specs.Reply.{IsReply}
use Rattle.bb_run.specs.Summary.{IsSinglePassSummary, IsSummary}
use Rattle.bb_run.specs.Trace.{AppendsSomeLines, IsTrace, IsTraceSummary, lines_text}

-- how deciding a list ends: the replies are the verdicts, and the summary that of the machines read
abbrev pub DecideEnds : Bounds → Plan → Option (List ℕ) → Option (List ℕ) → Option (List ℕ) → Option (List ℕ)
    → Result Summary Fault → Type 0
DecideEnds bounds plan left left_then held held_then end =
    ListEnds (IsReply bounds plan) (IsSummary bounds plan) left left_then held held_then end

-- the same for deciding each machine in a single pass: the summary has the steps really made
abbrev pub DecideInSinglePassEnds : Bounds → Plan → Option (List ℕ) → Option (List ℕ) → Option (List ℕ)
    → Option (List ℕ) → Result Summary Fault → Type 0
DecideInSinglePassEnds bounds plan left left_then held held_then end =
    ListEnds (IsReply bounds plan) (IsSinglePassSummary bounds plan) left left_then held held_then end

-- how a trace ends: without fault all its lines are written; after an allocation failure the first few, not
-- all; after a failed write a prefix
abbrev pub TraceEnds : Bounds → List ℕ → Option (List ℕ) → Option (List ℕ) → Result Summary Fault → Type 0
TraceEnds bounds line held held_then end = (lines : List (List ℕ)) × IsTrace bounds line lines × MatchEnd end
    (λ summary. Appends held held_then (lines_text lines) × IsTraceSummary bounds line summary)
    (AppendsSomeLines held held_then lines)
    ⊥
    (AppendsPrefix held held_then (lines_text lines))
