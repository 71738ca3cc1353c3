-- Runs that repeat, as in the recurrence of Lin and Radó (1965): from a step on, the run uses the transitions
-- of the table in a period. The definition by transitions alone is this project's own. It makes start and
-- period numbers of the machine, for cyclers and translated cyclers alike.
use Rattle.std.specs.Prelude.{◌≡◌, ℕ, ◌+◌, ◌-◌, ◌*◌, ◌<◌, ◌≤◌, ◌↔◌, Option, Some, None}
use Rattle.bb_machine.specs.declared.entry.Next.{Next}
use Rattle.bb_machine.specs.Machine.{Table}
use Rattle.bb_tape.specs.Content.{cell}
use Rattle.bb_sim.specs.Configuration.{Configuration}
use Rattle.bb_sim.specs.Run.{conf, Never}
use Rattle.bb_cert.specs.declared.verdict.Extent.{Extent}
use Rattle.bb_cert.specs.declared.verdict.Side.{Side}
use Rattle.bb_cert.specs.declared.verdict.Verdict.TheVariants.{Cycler, Translated}
use Rattle.bb_cert.specs.claims.Claim.{Claim}

-- a transition of a table, named by its state and the symbol that is read
pub record Transition : Type 0 where
  pub state : Next
  pub symbol : ℕ

-- the transition for a configuration's state and the symbol under its head, none without a configuration
abbrev pub transition_of : Option Configuration → Option Transition
transition_of None = None
transition_of (Some c) = Some (record { state = c.state; symbol = cell c.tape c.head })

-- the transition that step n uses, the one from configuration n
unfoldable pub transition_at : Table → ℕ → Option Transition
transition_at table n = transition_of (conf table n)

-- the machine never halts, and each step from `start` on uses the transition of the step a period later
pub record Repeats (table : Table) (start period : ℕ) : Type 0 where
  pub some : 0 < period
  pub never : Never table
  pub again : (n : ℕ) → start ≤ n → transition_at table (n + period) ≡ transition_at table n

-- it repeats so, with no smaller period from any step on, and from no earlier step on with any period
pub record RepeatsExactly (table : Table) (start period : ℕ) : Type 0 where
  pub repeats : Repeats table start period
  pub least_period : (s p : ℕ) → Repeats table s p → period ≤ p
  pub least_start : (s p : ℕ) → Repeats table s p → start ≤ s

-- the second number is a multiple of the first
abbrev pub IsMultipleOf : ℕ → ℕ → Type 0
IsMultipleOf d n = (k : ℕ) × (n ≡ k * d)

-- a machine with a true cycler or translated cycler repeats from the first step of the pair on, and the
-- distance of both steps is a period
abbrev pub CyclersRepeat : Type 0
CyclersRepeat = (table : Table) (a b : ℕ) → Claim table (Cycler a b) → Repeats table a (b - a)

abbrev pub TranslatedCyclersRepeat : Type 0
TranslatedCyclersRepeat = (table : Table) (side : Side) (a b : ℕ) (extent : Option Extent)
    → Claim table (Translated side a b extent) → Repeats table a (b - a)

-- a run that repeats from s on with one period, and from t on with another, has both from s on
abbrev pub StartsServeAllPeriods : Type 0
StartsServeAllPeriods = (table : Table) (s p t q : ℕ) → Repeats table s p → Repeats table t q
    → Repeats table s q

-- a run that repeats has an exact start and an exact period
abbrev pub ExactExists : Type 0
ExactExists = (table : Table) (s p : ℕ) → Repeats table s p
    → (start : ℕ) × (period : ℕ) × RepeatsExactly table start period

-- a machine has at most one exact start and one exact period
abbrev pub ExactIsUnique : Type 0
ExactIsUnique = (table : Table) (s p t q : ℕ) → RepeatsExactly table s p → RepeatsExactly table t q
    → (s ≡ t) × (p ≡ q)

-- each period is a multiple of the exact one
abbrev pub PeriodsAreMultiples : Type 0
PeriodsAreMultiples = (table : Table) (start period s p : ℕ) → RepeatsExactly table start period
    → Repeats table s p → IsMultipleOf period p

-- the exact start and period decide every claim: a run repeats from s on with period p exactly if s is at
-- least the exact start, and p a multiple of the exact period
abbrev pub ExactTellsAll : Type 0
ExactTellsAll = (table : Table) (start period s p : ℕ) → RepeatsExactly table start period
    → Repeats table s p ↔ ((0 < p) × (start ≤ s) × IsMultipleOf period p)
