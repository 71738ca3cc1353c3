-- The meaning of an ending tree for every start: stronger than never from the blank tape. This law is this
-- project's own.
use Rattle.std.specs.Prelude.{◌≡◌, ℕ, ◌<◌, ◌≤◌, Some, None, length, ℤ}
use Rattle.bb_machine.specs.Entry.{IsNextOf}
use Rattle.bb_machine.specs.Machine.{Table, IsMachine, symbols_of}
use Rattle.bb_tape.specs.Content.{cell}
use Rattle.bb_sim.specs.Configuration.{Configuration, next}
use Rattle.bb_sim.specs.Run.{after}
use Rattle.bb_tree.specs.Tree.{Ends}

-- one of the machine's states, or Z, at any position on any tape of its symbols
pub record IsStartOf (table : Table) (c : Configuration) : Type 0 where
  pub state : IsNextOf (length table) c.state
  pub symbols : (p : ℤ) → cell c.tape p < symbols_of table

-- started there, the machine halts after n steps
pub record HaltsFrom (table : Table) (c : Configuration) (n : ℕ) : Type 0 where
  pub last : Configuration
  pub exists : after table c n ≡ Some last
  pub no_next : next table last ≡ None

-- if the tree ends in so many levels, a machine that halts, from any start, does so within as many steps. The
-- start A on the blank tape may match a node here
abbrev pub EveryStartHaltsSoonOrNever : Type 0
EveryStartHaltsSoonOrNever = (table : Table) (levels nodes : ℕ) (c : Configuration) (n : ℕ)
    → IsMachine table → Ends table levels nodes → IsStartOf table c → HaltsFrom table c n → n ≤ levels
