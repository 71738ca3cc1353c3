-- The distance that the head covers in a period, as in Lin and Radó's (1965) recurrence.
use Rattle.std.specs.Prelude.{◌≡◌, ℕ, ◌+◌, ◌<◌, ◌≤◌, ◌↔◌, ℤ, pos, ◌-ℤ◌}
use Rattle.bb_machine.specs.Machine.{Table}
use Rattle.bb_cert.specs.declared.verdict.Verdict.TheVariants.{Cycler}
use Rattle.bb_cert.specs.claims.Claim.{Claim}
use Rattle.bb_cert.specs.claims.Repeat.{Same}
use Rattle.bb_cert.specs.records.Record.{head_at}
use Rattle.laws_of_recurrence.specs.Recurrence.{IsMultipleOf, Repeats, RepeatsExactly}

-- a period after the start the head is so many cells farther to the right; negative means to the left
abbrev pub IsShift : Table → ℕ → ℕ → ℤ → Type 0
IsShift table start period shift = shift ≡ head_at table (start + period) -ℤ head_at table start

-- the shift is the same from each step on
abbrev pub ShiftStays : Type 0
ShiftStays = (table : Table) (start period n : ℕ) (shift : ℤ) → Repeats table start period → start ≤ n
    → IsShift table start period shift → IsShift table n period shift

-- the shift is 0 exactly if the configuration at the start comes again after a period: state, head and tape
abbrev pub ZeroShiftIsCycle : Type 0
ZeroShiftIsCycle = (table : Table) (start period : ℕ) → Repeats table start period
    → IsShift table start period (pos 0) ↔ Same table start (start + period)

-- the exact start and period of a cycler are those of its configurations: the configuration of step s is that
-- of step s + p exactly if s is at least the exact start, and p a multiple of the exact period
abbrev pub ExactOfCyclers : Type 0
ExactOfCyclers = (table : Table) (a b start period s p : ℕ) → Claim table (Cycler a b)
    → RepeatsExactly table start period → 0 < p
    → Same table s (s + p) ↔ ((start ≤ s) × IsMultipleOf period p)
