-- Verdicts have the exact period: of the pair that `decide` finds, the distance of both steps is the exact
-- period. A pair from another source may be several periods apart. These laws are this project's own.
use Rattle.std.specs.Prelude.{◌≡◌, ℕ, ◌-◌, Option}
use Rattle.bb_machine.specs.declared.plan.Plan.{Plan}
use Rattle.bb_machine.specs.Limits.{Bounds}
use Rattle.bb_machine.specs.Machine.{Table}
use Rattle.bb_cert.specs.declared.verdict.Extent.{Extent}
use Rattle.bb_cert.specs.declared.verdict.Side.{Side}
use Rattle.bb_cert.specs.declared.verdict.Verdict.TheVariants.{Cycler, Translated}
use Rattle.bb_decide.specs.Verdict.{IsVerdict}
use Rattle.laws_of_recurrence.specs.Recurrence.{RepeatsExactly}

-- the distance of a verdict's pair is the exact period, for cyclers
abbrev pub CyclersHaveExactPeriod : Type 0
CyclersHaveExactPeriod = (table : Table) (bounds : Bounds) (plan : Plan) (a b start period : ℕ)
    → IsVerdict table bounds plan (Cycler a b) → RepeatsExactly table start period → b - a ≡ period

-- and for translated cyclers
abbrev pub TranslatedCyclersHaveExactPeriod : Type 0
TranslatedCyclersHaveExactPeriod = (table : Table) (bounds : Bounds) (plan : Plan) (side : Side)
    (a b : ℕ) (extent : Option Extent) (start period : ℕ)
    → IsVerdict table bounds plan (Translated side a b extent) → RepeatsExactly table start period
    → b - a ≡ period
