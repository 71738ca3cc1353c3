-- The meaning of each verdict written: this project's own.
use Rattle.std.specs.Prelude.{ℕ, ◌*◌, ◌≤◌}
use Rattle.bb_machine.specs.Limits.{Bounds}
use Rattle.bb_machine.specs.Machine.{Table, IsMachine}
use Rattle.bb_sim.specs.Run.{Never}
use Rattle.bb_cert.specs.declared.checker.answer.Answer.TheVariants.{Ok}
use Rattle.bb_cert.specs.declared.verdict.Verdict.{Verdict}
use Rattle.bb_cert.specs.checker.Answer.{IsAnswer, IsUndecided}
use Rattle.bb_cert.specs.claims.Claim.{SaysNever}
use Rattle.bb_machine.specs.declared.plan.Plan.{Plan}
use Rattle.bb_decide.specs.Verdict.{IsVerdict}
use Rattle.bb_decide.specs.Cost.{DecisionSteps}

-- after a verdict of never, no number of steps halts the machine; and unless the verdict is undecided, a
-- checker under the same bounds answers ok to it
pub record IsBorneOut (table : Table) (bounds : Bounds) (verdict : Verdict) : Type 0 where
  pub never : SaysNever verdict → Never table
  pub confirmed : (IsUndecided verdict → ⊥) → IsAnswer table bounds verdict Ok

-- every verdict on a machine is, and deciding it makes no more than three times the limit of steps
pub record VerdictsAreBorneOut (bounds : Bounds) (plan : Plan) : Type 0 where
  pub verdicts : (table : Table) (verdict : Verdict) → IsMachine table → IsVerdict table bounds plan verdict
      → IsBorneOut table bounds verdict
  pub steps : (table : Table) (n : ℕ) → DecisionSteps table bounds plan n → n ≤ 3 * bounds.steps
