-- The effect of one line on the summary so far, and its cost: the steps and the nodes of deciding it.
use Rattle.std.specs.Prelude.{◌≡◌, ℕ, ◌+◌, ◌⊎◌, false, true, List}
use Rattle.std.specs.List.{FoldsTo}
use Rattle.bb_machine.specs.Limits.{Bounds}
use Rattle.bb_machine.specs.Machine.{Table, IsMachineLine, IsTextOf}
use Rattle.bb_sim.specs.declared.meter.Meter.{Meter}
use Rattle.bb_sim.specs.Meter.{greatest_of, zero_meter}
use Rattle.bb_machine.specs.declared.plan.Plan.{Plan}
use Rattle.bb_decide.specs.Cost.{CountsWalk, CountsCost, IsWithinCost, MakesWalk}
use Rattle.bb_decide.specs.FingerprintKeys.{spread}
use Rattle.bb_decide.specs.SinglePassCost.{CountsRuns}
use Rattle.bb_run.specs.declared.summary.Summary.{Summary}

-- deciding a machine has counted exactly its cost
abbrev pub CountsExactly : Bounds → Plan → Table → Meter → Type 0
CountsExactly bounds plan table meter = CountsCost table bounds plan meter

-- deciding a machine in a single pass has counted the runs that it made, the nodes and levels of its walk, and no
-- more than it may
pub record CountsInSinglePass (bounds : Bounds) (plan : Plan) (table : Table) (meter : Meter) : Type 0 where
  pub runs : CountsRuns spread table bounds plan meter
  pub within : IsWithinCost bounds meter
  pub walk : CountsWalk (MakesWalk table bounds plan) table bounds meter

-- a machine was read: the peak takes in what deciding it counts
pub record SawMachine (Counts : Table → Meter → Type 0) (old : Summary) (line : List ℕ) (new : Summary)
    (cost : ℕ) : Type 0 where
  pub table : Table
  pub of : IsTextOf table line
  pub meter : Meter
  pub counts : Counts table meter
  pub clean : new.clean ≡ old.clean
  pub peak : new.peak ≡ greatest_of old.peak meter
  pub is_cost : cost ≡ meter.steps + meter.nodes

-- a line was refused: that cost nothing
pub record SawRefusal (old : Summary) (line : List ℕ) (new : Summary) (cost : ℕ) : Type 0 where
  pub no_machine : IsMachineLine line → ⊥
  pub clean : new.clean ≡ false
  pub peak : new.peak ≡ old.peak
  pub no_cost : cost ≡ 0

-- one line was answered: a machine's or another
abbrev pub SawBy : (Table → Meter → Type 0) → Summary → List ℕ → Summary → ℕ → Type 0
SawBy Counts old line new cost = SawMachine Counts old line new cost ⊎ SawRefusal old line new cost

-- before any line
abbrev pub none_seen : Summary
none_seen = record { clean = true; peak = zero_meter }

-- one line was answered, at some cost
abbrev pub SawLine : (Table → Meter → Type 0) → Summary → List ℕ → Summary → Type 0
SawLine Counts old line new = (cost : ℕ) × SawBy Counts old line new cost

-- these lines were answered, one after another
abbrev pub SawLines : (Table → Meter → Type 0) → List (List ℕ) → Summary → Type 0
SawLines Counts lines summary = FoldsTo (SawLine Counts) none_seen lines summary
