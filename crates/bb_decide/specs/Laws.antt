-- Laws of verdicts.
use Rattle.std.specs.Prelude.{◌≡◌, ℕ, ◌+◌, ◌*◌, ◌<◌, ◌≤◌, Bool, ℤ}
use Rattle.bb_machine.specs.Limits.{Bounds}
use Rattle.bb_machine.specs.Machine.{Table, IsMachine}
use Rattle.bb_sim.specs.Span.{Inside}
use Rattle.bb_cert.specs.declared.checker.answer.Answer.TheVariants.{Ok}
use Rattle.bb_cert.specs.declared.verdict.Side.{Side}
use Rattle.bb_cert.specs.declared.verdict.Verdict.{Verdict}
use Rattle.bb_cert.specs.records.Agree.{Agree}
use Rattle.bb_cert.specs.checker.Answer.{IsAnswer, IsUndecided}
use Rattle.bb_cert.specs.claims.Claim.{Claim}
use Rattle.bb_cert.specs.records.Record.{IsRecord}
use Rattle.bb_cert.specs.claims.Repeat.{Same}
use Rattle.bb_machine.specs.declared.plan.Plan.{Plan}
use Rattle.bb_decide.specs.Cycle.{IsCycle}
use Rattle.bb_decide.specs.Sure.{IsFoundByRun, IsLeastPower, NoneIsSmaller, StaysAs}
use Rattle.bb_decide.specs.Translation.{IsTranslation}
use Rattle.bb_decide.specs.Verdict.{IsVerdict}
use Rattle.bb_decide.specs.Cost.{DecisionSteps}
use Rattle.bb_decide.specs.SinglePassCost.{MakesRuns}

-- two verdicts on one machine, within the same bounds and by the same plan, are the same
abbrev pub VerdictIsUnique : Type 0
VerdictIsUnique = (table : Table) (bounds : Bounds) (plan : Plan) (a b : Verdict)
    → IsVerdict table bounds plan a → IsVerdict table bounds plan b → a ≡ b

-- and it costs as many steps each time
abbrev pub StepsAreUnique : Type 0
StepsAreUnique = (table : Table) (bounds : Bounds) (plan : Plan) (a b : ℕ)
    → DecisionSteps table bounds plan a → DecisionSteps table bounds plan b → a ≡ b

-- so do its runs where it is decided in one, and the last step of any of them is the same each time
abbrev pub RunsAreUnique : Type 0
RunsAreUnique = (key : ℤ → ℕ) (table : Table) (bounds : Bounds) (plan : Plan) (a b : ℕ × ℕ)
    → MakesRuns key table bounds plan.cyclers plan.translated a.0 a.1
    → MakesRuns key table bounds plan.cyclers plan.translated b.0 b.1 → (a.0 ≡ b.0) × (a.1 ≡ b.1)

-- no more than three runs' steps
abbrev pub StepsAreBounded : Type 0
StepsAreBounded = (table : Table) (bounds : Bounds) (plan : Plan) (steps : ℕ)
    → DecisionSteps table bounds plan steps → steps ≤ 3 * bounds.steps

-- what a verdict claims holds
abbrev pub VerdictsHold : Type 0
VerdictsHold = (table : Table) (bounds : Bounds) (plan : Plan) (verdict : Verdict)
    → IsVerdict table bounds plan verdict → Claim table verdict

-- a checker under the same bounds answers ok to each verdict but an undecided one
abbrev pub VerdictsAreConfirmed : Type 0
VerdictsAreConfirmed = (table : Table) (bounds : Bounds) (plan : Plan) (verdict : Verdict)
    → IsVerdict table bounds plan verdict → (IsUndecided verdict → ⊥) → IsAnswer table bounds verdict Ok

-- where the configuration of step a comes again p steps later, that of the least power of two that is at
-- least both a and p does too; so a search that gets p steps past that power finds a pair
abbrev pub RepeatsAreFound : Type 0
RepeatsAreFound = (table : Table) (bounds : Bounds) (a p power : ℕ) → 0 < p → Same table a (a + p)
    → IsLeastPower power a p → Inside table bounds (power + p) → IsCycle table bounds power (power + p)

-- where records i and i + r of a side agree, so do that of the least power of two that is at least
-- both i and r, and the r-th after it; so a search that gets there finds a pair
abbrev pub AgreeingRecordsAreFound : Type 0
AgreeingRecordsAreFound = (table : Table) (bounds : Bounds) (side : Side) (i r a b power n : ℕ) → 0 < r
    → IsRecord table side i a → IsRecord table side (i + r) b → Agree table side a b → IsLeastPower power i r
    → IsRecord table side (power + r) n → Inside table bounds n
    → (m : ℕ) × IsTranslation table bounds side m n

-- a machine that was decided stays decided within limits none of which is smaller
abbrev pub LargerLimitsKeep : Type 0
LargerLimitsKeep = (table : Table) (lower upper : Bounds) (plan : Plan) (a b : Verdict) → IsMachine table
    → NoneIsSmaller lower upper → IsVerdict table lower plan a → IsVerdict table upper plan b → StaysAs a b

-- a verdict found by a run is the verdict within all limits none of which is smaller, with or without
-- backward reasoning
abbrev pub SmallLimitsDecide : Type 0
SmallLimitsDecide = (table : Table) (lower upper : Bounds) (plan : Plan) (trees : Bool) (verdict : Verdict)
    → NoneIsSmaller lower upper → IsFoundByRun verdict
    → IsVerdict table lower (record plan { backward = trees }) verdict → IsVerdict table upper plan verdict
