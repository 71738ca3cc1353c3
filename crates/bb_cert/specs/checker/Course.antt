-- A runner at a step of a run, as what is followed along the run sees it.
use Rattle.std.specs.Prelude.{◌≡◌, ℕ}
use Rattle.bb_machine.specs.Machine.{Table}
use Rattle.bb_tape.specs.Content.{cell}
use Rattle.bb_tape.specs.TapeView.{TapeView}
use Rattle.bb_sim.specs.declared.runner.Runner.{Runner}
use Rattle.bb_sim.specs.Runner.{Stands, position_of, steps_of}

-- a runner stands at step n
pub record IsRunnerAt (table : Table) (n : ℕ) (runner : Runner) : Type 0 where
  pub view : TapeView
  pub stands : Stands table runner view
  pub at : steps_of runner ≡ n

-- the head reads this symbol at step n
pub record IsReadAt (table : Table) (n symbol : ℕ) : Type 0 where
  pub runner : Runner
  pub view : TapeView
  pub stands : Stands table runner view
  pub at : steps_of runner ≡ n
  pub reads : symbol ≡ cell view.content (position_of runner)
