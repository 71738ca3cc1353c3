-- What is always decided, since it stays in few cells: this project's own.
use Rattle.std.specs.Prelude.{◌≢◌, ◌*◌, ◌≤◌, IsTrue, Option}
use Rattle.bb_machine.specs.Limits.{Bounds}
use Rattle.bb_machine.specs.Machine.{Table, IsMachine}
use Rattle.bb_sim.specs.FewCells.{configurations_in, IsRunning}
use Rattle.bb_sim.specs.Span.{Inside}
use Rattle.bb_cert.specs.declared.verdict.Why.TheVariants.{Steps}
use Rattle.bb_cert.specs.declared.verdict.Verdict.{Verdict}
use Rattle.bb_cert.specs.declared.verdict.Verdict.TheVariants.{Undecided}
use Rattle.bb_machine.specs.declared.plan.Plan.{Plan}
use Rattle.bb_decide.specs.Sure.{IsFoundBy}
use Rattle.bb_decide.specs.Verdict.{IsVerdict}

-- the limit of steps is at least three times the number of the machine's configurations in the limit of cells
abbrev pub HasStepsForCells : Table → Bounds → Type 0
HasStepsForCells table bounds = 3 * configurations_in table bounds.cells ≤ bounds.steps

-- with so many steps, where the run goes on to the limit of steps, inside and not in Z, a pair is found, no
-- later than after three times that number of steps
abbrev pub FindsInFewCells : Table → Bounds → Option Verdict → Type 0
FindsInFewCells table bounds found = HasStepsForCells table bounds → Inside table bounds bounds.steps
    → IsRunning table bounds.steps → IsFoundBy (3 * configurations_in table bounds.cells) found

-- with so many steps, and the cyclers on, a verdict isn't `undecided steps`
abbrev pub DecidesFewCells : Table → Bounds → Plan → Verdict → Type 0
DecidesFewCells table bounds plan verdict =
    IsTrue plan.cyclers → HasStepsForCells table bounds → verdict ≢ Undecided Steps

-- no verdict is
abbrev pub FewCellsAreDecided : Type 0
FewCellsAreDecided = (table : Table) (bounds : Bounds) (plan : Plan) (verdict : Verdict) → IsMachine table
    → IsVerdict table bounds plan verdict → DecidesFewCells table bounds plan verdict
