-- The effect of checking one line on the summary so far, and its cost: the steps and the nodes.
use Rattle.std.specs.Prelude.{◌≡◌, ℕ, ◌+◌, ◌⊎◌, false, ◌&&◌, List}
use Rattle.bb_machine.specs.Limits.{Bounds}
use Rattle.bb_machine.specs.Machine.{Table}
use Rattle.bb_sim.specs.declared.meter.Meter.{Meter}
use Rattle.bb_sim.specs.Meter.{greatest_of}
use Rattle.bb_cert.specs.declared.checker.answer.Answer.{Answer}
use Rattle.bb_cert.specs.declared.checker.answer.Answer.TheVariants as answer
use Rattle.bb_cert.specs.declared.verdict.reader.Line.{Line}
use Rattle.bb_cert.specs.declared.verdict.reader.Line.TheVariants.{Claim, Refusal}
use Rattle.bb_cert.specs.declared.verdict.Verdict.{Verdict}
use Rattle.bb_cert.specs.checker.Answer.{IsAnswer, is_fine}
use Rattle.bb_cert.specs.checker.ClaimMeter.{CountsCheck, CountsClaim, CountsWindow, IsWithinClaim}
use Rattle.bb_cert.specs.verdict.Line.{IsLineOf}
use Rattle.bb_run.specs.declared.summary.Summary.{Summary}

-- a machine and a verdict were read: the peak takes in what checking them counts
pub record SawAnswer (bounds : Bounds) (old : Summary) (line : List ℕ) (new : Summary) (cost : ℕ)
    : Type 0 where
  pub table : Table
  pub verdict : Verdict
  pub of : IsLineOf (Claim table verdict) line
  pub given : Answer
  pub is_answer : IsAnswer table bounds verdict given
  pub meter : Meter
  pub counted : given ≡ answer.Ok → CountsClaim verdict meter
  pub within : IsWithinClaim bounds verdict meter
  pub checked : CountsCheck table bounds verdict meter
  pub window : CountsWindow table bounds verdict meter.most_cells
  pub clean : new.clean ≡ (old.clean && is_fine given)
  pub peak : new.peak ≡ greatest_of old.peak meter
  pub is_cost : cost ≡ meter.steps + meter.nodes

-- a refusal was read: that cost nothing
pub record SawOpen (old : Summary) (line : List ℕ) (new : Summary) (cost : ℕ) : Type 0 where
  pub column : ℕ
  pub of : IsLineOf (Refusal column) line
  pub same : new ≡ old
  pub no_cost : cost ≡ 0

-- a line was no verdict line: that cost nothing
pub record SawUnread (old : Summary) (line : List ℕ) (new : Summary) (cost : ℕ) : Type 0 where
  pub no_line : (said : Line) → IsLineOf said line → ⊥
  pub clean : new.clean ≡ false
  pub peak : new.peak ≡ old.peak
  pub no_cost : cost ≡ 0

-- one line was answered
abbrev pub CheckSaw : Bounds → Summary → List ℕ → Summary → ℕ → Type 0
CheckSaw bounds old line new cost = SawAnswer bounds old line new cost
    ⊎ (SawOpen old line new cost ⊎ SawUnread old line new cost)
