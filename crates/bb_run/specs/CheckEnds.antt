-- The result of checking a list: the input read, and the output written by then. This project's own.
use Rattle.std.specs.Prelude.{ℕ, List, Option, Result}
use Rattle.bb_machine.specs.Limits.{Bounds}
use Rattle.bb_lines.specs.declared.fault.Fault.{Fault}
use Rattle.bb_lines.specs.Ends.{ListEnds}
use Rattle.bb_run.specs.declared.summary.Summary.{Summary}
use Rattle.bb_run.specs.CheckReply.{IsCheckReply}
use Rattle.bb_run.specs.CheckSummary.{IsCheckSummary}

-- the replies are the answers, and the summary that of the lines read
abbrev pub CheckEnds : Bounds → Option (List ℕ) → Option (List ℕ) → Option (List ℕ) → Option (List ℕ)
    → Result Summary Fault → Type 0
CheckEnds bounds left left_then held held_then end =
    ListEnds (IsCheckReply bounds) (IsCheckSummary bounds) left left_then held held_then end
