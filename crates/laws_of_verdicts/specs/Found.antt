-- Claims of others, and what this project's own search makes of them: this project's own.
use Rattle.std.specs.Prelude.{ℕ, ◌*◌, ◌≤◌, IsTrue}
use Rattle.bb_machine.specs.declared.plan.Plan.{Plan}
use Rattle.bb_machine.specs.Limits.{Bounds}
use Rattle.bb_machine.specs.Machine.{Table}
use Rattle.bb_sim.specs.Span.{span}
use Rattle.bb_cert.specs.declared.checker.answer.Answer.TheVariants.{Ok}
use Rattle.bb_cert.specs.declared.verdict.Verdict.{Verdict}
use Rattle.bb_cert.specs.declared.verdict.Verdict.TheVariants.{Halt, Cycler, Translated, Backward, Undecided}
use Rattle.bb_cert.specs.checker.Answer.{IsAnswer}
use Rattle.bb_decide.specs.Verdict.{IsVerdict}

-- a cycler, whose second step is no later than this
abbrev pub IsCyclerBy : ℕ → Verdict → Type 0
IsCyclerBy latest (Cycler first second) = second ≤ latest
IsCyclerBy latest (Halt steps score) = ⊥
IsCyclerBy latest (Translated side first second extent) = ⊥
IsCyclerBy latest (Backward levels nodes) = ⊥
IsCyclerBy latest (Undecided why) = ⊥

-- where the checker answers ok to a cycler, under whatever limits, the verdict with the cyclers on is one
-- too, whose second step is within three times that one, if the limits reach so far. For translated cyclers
-- no such bound follows: which records are compared goes by their numbers, and a record may take long
abbrev pub CyclersAreFound : Type 0
CyclersAreFound = (table : Table) (checked bounds : Bounds) (plan : Plan) (first second : ℕ)
    (verdict : Verdict) → IsAnswer table checked (Cycler first second) Ok
    → IsTrue plan.cyclers → 3 * second ≤ bounds.steps → span table (3 * second) ≤ bounds.cells
    → IsVerdict table bounds plan verdict → IsCyclerBy (3 * second) verdict
