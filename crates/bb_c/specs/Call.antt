-- The request of a call, put together from its numbers and its bytes: this project's own.
use Rattle.std.specs.Prelude.{ℕ, Bool, List}
use Rattle.bb_machine.specs.Limits.{Bounds}
use Rattle.bb_machine.specs.Machine.{Table}
use Rattle.bb_machine.specs.declared.plan.Plan.{Plan}
use Rattle.bb_cert.specs.declared.verdict.Verdict.{Verdict}
use Rattle.bb_cert.specs.declared.verdict.reader.Line.TheVariants.{Claim}
use Rattle.bb_cert.specs.verdict.Line.{IsLineOf}

abbrev pub bounds_of : ℕ → ℕ → ℕ → ℕ → Bounds
bounds_of steps cells depth nodes = record { steps = steps; cells = cells; depth = depth; nodes = nodes }

-- the limits of a pair, which has no tree
abbrev pub pair_bounds_of : ℕ → ℕ → Bounds
pair_bounds_of steps cells = bounds_of steps cells 0 0

abbrev pub plan_of : Bool → Bool → Bool → Plan
plan_of cyclers translated backward =
    record { cyclers = cyclers; translated = translated; backward = backward }

-- the bytes are the line of a machine and a verdict on it
abbrev pub IsVerdictLine : List ℕ → Type 0
IsVerdictLine bytes = (table : Table) × (verdict : Verdict) × IsLineOf (Claim table verdict) bytes
