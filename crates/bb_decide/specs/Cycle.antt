-- The result of the search for cycles. It is named after bbchallenge's Cyclers; the comparison of a step with
-- its partner is this project's own.
use Rattle.std.specs.Prelude.{ℕ, ◌≤◌, Option, Some, None}
use Rattle.bb_machine.specs.Limits.{Bounds}
use Rattle.bb_machine.specs.Machine.{Table}
use Rattle.bb_sim.specs.declared.meter.Meter.{Meter}
use Rattle.bb_sim.specs.Meter.{CountsTo, CountsRun}
use Rattle.bb_sim.specs.Span.{Inside}
use Rattle.bb_cert.specs.declared.verdict.Verdict.{Verdict}
use Rattle.bb_cert.specs.declared.verdict.Verdict.TheVariants.{Cycler, Translated}
use Rattle.bb_cert.specs.claims.Repeat.{Same}
use Rattle.bb_decide.specs.Partner.{IsPartner}

-- step t is inside, and its configuration is that of its partner a
pub record IsCycle (table : Table) (bounds : Bounds) (a t : ℕ) : Type 0 where
  pub partner : IsPartner a t
  pub inside : Inside table bounds t
  pub same : Same table a t

-- no step inside has the configuration of its partner
abbrev pub HasNoCycle : Table → Bounds → Type 0
HasNoCycle table bounds = (a t : ℕ) → IsCycle table bounds a t → ⊥

-- the first such step
pub record IsFirstCycle (table : Table) (bounds : Bounds) (a t : ℕ) : Type 0 where
  pub cycle : IsCycle table bounds a t
  pub first : (b u : ℕ) → IsCycle table bounds b u → t ≤ u

-- the pair of the first such step; none just where there is none
abbrev pub FindsCycle : Table → Bounds → Option Verdict → Type 0
FindsCycle table bounds None = HasNoCycle table bounds
FindsCycle table bounds (Some (Cycler first second)) = IsFirstCycle table bounds first second
FindsCycle table bounds (Some verdict) = ⊥

-- the run was counted to the second step of the pair, or as a whole
abbrev pub CountsSearch : Table → Bounds → Meter → Meter → Option Verdict → Type 0
CountsSearch table bounds old new None = CountsRun table bounds old new
CountsSearch table bounds old new (Some (Cycler first second)) = CountsTo table second old new
CountsSearch table bounds old new (Some (Translated side first second extent)) = CountsTo table second old new
CountsSearch table bounds old new (Some verdict) = ⊥
