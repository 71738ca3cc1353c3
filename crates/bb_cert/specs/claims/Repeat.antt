-- A configuration that comes again, as in bbchallenge's cyclers.
use Rattle.std.specs.Prelude.{◌≡◌, ℕ, Some}
use Rattle.bb_machine.specs.Machine.{Table}
use Rattle.bb_sim.specs.Configuration.{Configuration}
use Rattle.bb_sim.specs.Run.{conf}

-- the configurations at steps a and b exist and are the same: state, head and tape
pub record Same (table : Table) (a b : ℕ) : Type 0 where
  pub here : Configuration
  pub at_first : conf table a ≡ Some here
  pub at_second : conf table b ≡ Some here
