-- The numbers that this crate's documents state, as literals.
use Rattle.std.specs.Prelude.{◌≡◌, ℕ}
use Rattle.bb_lines.specs.declared.fault.Fault.{Fault}
use Rattle.bb_lines.specs.declared.fault.Fault.TheVariants.{Memory, Read, Write}
use Rattle.bb_lines.specs.declared.output.TheConstants.{WAITING}
use Rattle.bb_lines.specs.declared.responder.TheConstants.{HIGH_COST, MAX_KEPT, REPLY}

-- how many bytes of output wait, of a reply there are, and of a line are kept at most; and from which cost on
-- replies are written at once
pub record NumbersAreStated : Type 0 where
  pub waiting : WAITING ≡ 16384
  pub reply : REPLY ≡ 8191
  pub kept : MAX_KEPT ≡ 1024
  pub high_cost : HIGH_COST ≡ 100000

-- the number of each fault
abbrev pub fault_number : Fault → ℕ
fault_number Memory = 1
fault_number Read = 2
fault_number Write = 3
