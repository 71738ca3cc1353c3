-- The meaning of a pair for all later steps. These laws are this project's own.
use Rattle.std.specs.Prelude.{◌≡◌, ℕ, ◌+◌, ◌-◌, ◌*◌, ◌≤◌, Some, pos, ◌+ℤ◌}
use Rattle.bb_machine.specs.Machine.{Table}
use Rattle.bb_sim.specs.Configuration.{Configuration}
use Rattle.bb_sim.specs.Run.{conf}
use Rattle.bb_cert.specs.declared.verdict.Extent.{Extent}
use Rattle.bb_cert.specs.declared.verdict.Side.{Side}
use Rattle.bb_cert.specs.declared.verdict.Verdict.TheVariants.{Cycler, Translated}
use Rattle.bb_cert.specs.records.Record.{out}
use Rattle.bb_cert.specs.claims.Claim.{Claim}
use Rattle.bb_cert.specs.claims.Repeat.{Same}

-- where `cycler a b` holds, the configuration of each step from a on is that of all steps k times b - a later
abbrev pub CyclersComeAgain : Type 0
CyclersComeAgain = (table : Table) (a b n k : ℕ) → Claim table (Cycler a b) → a ≤ n
    → Same table n (n + k * (b - a))

-- steps n and m have the same state, and at m the head is so many cells farther out on a side than at n
pub record MovesOut (table : Table) (side : Side) (n m cells : ℕ) : Type 0 where
  pub first : Configuration
  pub second : Configuration
  pub at_first : conf table n ≡ Some first
  pub at_second : conf table m ≡ Some second
  pub same_state : second.state ≡ first.state
  pub farther : out side second.head ≡ out side first.head +ℤ pos cells

-- where `translated side a b` holds with an extent, the state of each step n from a on is that of all steps k
-- times b - a later, and the head is k times the shift farther out there
abbrev pub TranslatedCyclersMoveOn : Type 0
TranslatedCyclersMoveOn = (table : Table) (side : Side) (a b n k : ℕ) (extent : Extent)
    → Claim table (Translated side a b (Some extent)) → a ≤ n
    → MovesOut table side n (n + k * (b - a)) (k * extent.shift)
