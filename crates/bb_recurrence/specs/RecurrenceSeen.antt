-- The effect of one line on the summary so far, and its cost: the steps and the nodes.
use Rattle.std.specs.Prelude.{◌≡◌, ℕ, ◌+◌, ◌⊎◌, Bool, true, false, ◌&&◌, List}
use Rattle.bb_machine.specs.Limits.{Bounds}
use Rattle.bb_machine.specs.Machine.{Table}
use Rattle.bb_sim.specs.declared.meter.Meter.{Meter}
use Rattle.bb_sim.specs.Meter.{greatest_of}
use Rattle.bb_cert.specs.declared.verdict.reader.Line.TheVariants.{Claim}
use Rattle.bb_cert.specs.declared.verdict.Verdict.{Verdict}
use Rattle.bb_cert.specs.verdict.Line.{IsLineOf}
use Rattle.bb_run.specs.declared.summary.Summary.{Summary}
use Rattle.bb_run.specs.CheckSeen.{SawOpen, SawUnread}
use Rattle.bb_recurrence.specs.declared.uses.LastUses.{LastUses}
use Rattle.bb_recurrence.specs.declared.verdict.Finding.{Finding}
use Rattle.bb_recurrence.specs.declared.verdict.Finding.TheVariants.{Answered, NoPair, Recurs}
use Rattle.bb_recurrence.specs.Finding.{CountsFinding, IsFinding}

-- the results that leave a run clean
abbrev pub is_clean : Finding → Bool
is_clean (Recurs found) = true
is_clean (Answered answer) = false
is_clean NoPair = true

-- a machine and a verdict were read: the peak takes in the cost of the result
pub record SawFinding (bounds : Bounds) (old : Summary) (line : List ℕ) (new : Summary) (cost : ℕ)
    : Type 0 where
  pub table : Table
  pub verdict : Verdict
  pub of : IsLineOf (Claim table verdict) line
  pub uses : LastUses
  pub finding : Finding
  pub is_finding : IsFinding table bounds verdict uses finding
  pub meter : Meter
  pub counted : CountsFinding table bounds verdict meter finding
  pub clean : new.clean ≡ (old.clean && is_clean finding)
  pub peak : new.peak ≡ greatest_of old.peak meter
  pub is_cost : cost ≡ meter.steps + meter.nodes

-- one line was answered
abbrev pub RecurrenceSaw : Bounds → Summary → List ℕ → Summary → ℕ → Type 0
RecurrenceSaw bounds old line new cost = SawFinding bounds old line new cost
    ⊎ (SawOpen old line new cost ⊎ SawUnread old line new cost)
