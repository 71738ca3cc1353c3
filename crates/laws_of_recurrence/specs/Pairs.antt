-- Every run that repeats has a true pair, so the checker can confirm any true start and period. These laws
-- are this project's own.
use Rattle.std.specs.Prelude.{ℕ, ◌+◌, ◌≤◌, ◌⊎◌, None, ℤ, pos, ◌<ℤ◌}
use Rattle.bb_machine.specs.Machine.{Table}
use Rattle.bb_cert.specs.declared.verdict.Side.{Side}
use Rattle.bb_cert.specs.declared.verdict.Verdict.TheVariants.{Cycler, Translated}
use Rattle.bb_cert.specs.claims.Claim.{Claim}
use Rattle.bb_cert.specs.records.Record.{IsRecord, out}
use Rattle.laws_of_recurrence.specs.Recurrence.{Repeats}
use Rattle.laws_of_recurrence.specs.Shift.{IsShift}

-- a record on the side of the shift, a period after the start or later, agrees with the step one period later
abbrev pub LateRecordsArePairs : Type 0
LateRecordsArePairs = (table : Table) (side : Side) (s p j n : ℕ) (shift : ℤ) → Repeats table s p
    → IsShift table s p shift → pos 0 <ℤ out side shift → s + p ≤ n → IsRecord table side j n
    → Claim table (Translated side n (n + p) None)

-- a run that repeats from s on with period p has a true pair of that distance: the cycler s, s + p, or a
-- translated cycler from a later step
abbrev pub RepeatsHavePairs : Type 0
RepeatsHavePairs = (table : Table) (s p : ℕ) → Repeats table s p
    → Claim table (Cycler s (s + p))
    ⊎ ((side : Side) × (n : ℕ) × (s ≤ n) × Claim table (Translated side n (n + p) None))
