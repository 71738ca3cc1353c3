-- Laws of runs, with and without bounds.
use Rattle.std.specs.Prelude.{◌≡◌, ◌≢◌, ℕ, ◌<◌, ◌≤◌, Some, ℤ, pos, ◌+ℤ◌, ◌≤ℤ◌}
use Rattle.bb_machine.specs.declared.entry.Next.TheVariants.{Halt}
use Rattle.bb_machine.specs.Limits.{Bounds}
use Rattle.bb_machine.specs.Machine.{Table}
use Rattle.bb_sim.specs.declared.meter.Meter.{Meter}
use Rattle.bb_sim.specs.declared.simulation.Outcome.{Outcome}
use Rattle.bb_sim.specs.Configuration.{Configuration}
use Rattle.bb_sim.specs.Run.{conf, Exists, HaltsAt, IsScore}
use Rattle.bb_sim.specs.Span.{counted_head, least, greatest, span, Inside, IsLastInside}
use Rattle.bb_sim.specs.Meter.{CountsTo, IsWithinRun}
use Rattle.bb_sim.specs.Outcome.{IsOutcome}

-- within any bounds of one cell at least, a run has a last step
abbrev pub LastStepExists : Type 0
LastStepExists = (table : Table) (bounds : Bounds) → 0 < bounds.cells → (n : ℕ) × IsLastInside table bounds n

-- it has no two
abbrev pub LastStepIsUnique : Type 0
LastStepIsUnique = (table : Table) (bounds : Bounds) (a b : ℕ)
    → IsLastInside table bounds a → IsLastInside table bounds b → a ≡ b

-- what is before a configuration exists
abbrev pub EarlierExists : Type 0
EarlierExists = (table : Table) (m n : ℕ) → m ≤ n → Exists table n → Exists table m

-- a halt is at the last configuration
abbrev pub HaltIsLast : Type 0
HaltIsLast = (table : Table) (n m : ℕ) → HaltsAt table n → Exists table m → m ≤ n

-- a machine halts at one step only
abbrev pub HaltIsUnique : Type 0
HaltIsUnique = (table : Table) (a b : ℕ) → HaltsAt table a → HaltsAt table b → a ≡ b

-- with one score
abbrev pub ScoreIsUnique : Type 0
ScoreIsUnique = (table : Table) (n a b : ℕ) → IsScore table n a → IsScore table n b → a ≡ b

-- a simulation finds one thing only
abbrev pub OutcomeIsUnique : Type 0
OutcomeIsUnique = (table : Table) (bounds : Bounds) (a b : Outcome)
    → IsOutcome table bounds a → IsOutcome table bounds b → a ≡ b

-- the span never shrinks
abbrev pub SpanGrows : Type 0
SpanGrows = (table : Table) (m n : ℕ) → m ≤ n → span table m ≤ span table n

-- a step before one inside is inside
abbrev pub EarlierIsInside : Type 0
EarlierIsInside = (table : Table) (bounds : Bounds) (m n : ℕ)
    → m ≤ n → Inside table bounds n → Inside table bounds m

-- the head stands at a position at step n, and not in Z
pub record IsRunningAt (table : Table) (n : ℕ) (position : ℤ) : Type 0 where
  pub here : Configuration
  pub exists : conf table n ≡ Some here
  pub runs : here.state ≢ Halt
  pub at : here.head ≡ position

-- the head stood at both ends of the span up to step n at steps not in Z, and at all such steps between them
pub record SpanIsReachedAt (table : Table) (n : ℕ) : Type 0 where
  pub low_step : ℕ
  pub low_before : low_step ≤ n
  pub low : IsRunningAt table low_step (least (counted_head table) n)
  pub high_step : ℕ
  pub high_before : high_step ≤ n
  pub high : IsRunningAt table high_step (greatest (counted_head table) n)
  pub between : (m : ℕ) (position : ℤ) → m ≤ n → IsRunningAt table m position
      → (least (counted_head table) n ≤ℤ position) × (position ≤ℤ greatest (counted_head table) n)

abbrev pub SpanIsReached : Type 0
SpanIsReached = (table : Table) (n : ℕ) → SpanIsReachedAt table n

-- what is counted up to a step inside is within the run's bounds
abbrev pub CountIsWithin : Type 0
CountIsWithin = (table : Table) (bounds : Bounds) (n : ℕ) (old new : Meter)
    → Inside table bounds n → CountsTo table n old new → IsWithinRun bounds old new

-- each step moves the head by one cell, so its position is even at even steps and odd at odd ones
abbrev pub PositionHasParityOfStep : Type 0
PositionHasParityOfStep = (table : Table) (n : ℕ) (here : Configuration) → conf table n ≡ Some here
    → (half : ℤ) × (here.head +ℤ pos n ≡ half +ℤ half)
