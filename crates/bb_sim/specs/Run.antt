-- The run of a machine from its start, and where it halts.
use Rattle.std.specs.Prelude.{◌≡◌, ℕ, zero, suc, Option, Some, None, option_and_then}
use Rattle.bb_machine.specs.Machine.{Table}
use Rattle.bb_tape.specs.Content.{score}
use Rattle.bb_sim.specs.Configuration.{Configuration, start, next}

-- the configuration that comes so many steps after c, where there is one
abbrev pub after : Table → Configuration → ℕ → Option Configuration
after table c zero = Some c
after table c (suc n) = option_and_then (next table) (after table c n)

-- configuration n of the run
unfoldable pub conf : Table → ℕ → Option Configuration
conf table n = after table start n

-- configuration n exists
pub record Exists (table : Table) (n : ℕ) : Type 0 where
  pub here : Configuration
  pub exists : conf table n ≡ Some here

-- the machine halts after n steps: configuration n exists and has no next one
pub record HaltsAt (table : Table) (n : ℕ) : Type 0 where
  pub last : Configuration
  pub exists : conf table n ≡ Some last
  pub no_next : next table last ≡ None

-- no number of steps halts
pub record Never (table : Table) : Type 0 where
  pub never : (n : ℕ) → HaltsAt table n → ⊥

-- after n steps so many cells are not 0; for two symbols this is Radó's number of ones
pub record IsScore (table : Table) (n ones : ℕ) : Type 0 where
  pub here : Configuration
  pub exists : conf table n ≡ Some here
  pub counted : ones ≡ score here.tape
