-- For which machines the reply is never `undecided steps`: this project's own.
use Rattle.std.specs.Prelude.{◌≢◌, ℕ, List, IsTrue}
use Rattle.bb_machine.specs.Limits.{Bounds}
use Rattle.bb_machine.specs.Machine.{Table, IsTextOf}
use Rattle.bb_cert.specs.declared.verdict.Why.TheVariants.{Steps}
use Rattle.bb_cert.specs.declared.verdict.Verdict.TheVariants.{Undecided}
use Rattle.bb_cert.specs.verdict.Line.{line_text}
use Rattle.bb_machine.specs.declared.plan.Plan.{Plan}
use Rattle.bb_decide.specs.FewCells.{HasStepsForCells}
use Rattle.bb_run.specs.Reply.{IsReply}

-- with the cyclers on, the reply to a line whose own machine has so few configurations in the cells that the
-- steps are three times as many is not `undecided steps`
abbrev pub FewCellsAreReplied : Bounds → Plan → Type 0
FewCellsAreReplied bounds plan = IsTrue plan.cyclers → (table : Table) (line reply : List ℕ)
    → IsTextOf table line → HasStepsForCells table bounds → IsReply bounds plan line reply
    → reply ≢ line_text table (Undecided Steps)

-- for any bounds and plan
abbrev pub AllFewCellsAreReplied : Type 0
AllFewCellsAreReplied = (bounds : Bounds) (plan : Plan) → FewCellsAreReplied bounds plan
