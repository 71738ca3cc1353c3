-- Runs of one machine, advanced together.
use Rattle.std.specs.Prelude.{◌≡◌, ℕ, ◌+◌, ◌<◌, ◌≤◌, Bool, true, false}
use Rattle.std.specs.Prelude.{ℤ, pos, neg_ℤ, ◌+ℤ◌, ◌≤ℤ◌}
use Rattle.bb_machine.specs.Limits.{Bounds}
use Rattle.bb_machine.specs.Machine.{Table}
use Rattle.bb_tape.specs.Content.{cell}
use Rattle.bb_tape.specs.declared.tape.TheConstants.{MAX_CELLS}
use Rattle.bb_tape.specs.TapeView.{TapeView}
use Rattle.bb_sim.specs.declared.runner.Runner.{Runner}
use Rattle.bb_sim.specs.Run.{Never}
use Rattle.bb_sim.specs.Runner.{Stands, position_of, state_of, steps_of}
use Rattle.bb_sim.specs.Span.{Inside}
use Rattle.laws_of_recurrence.specs.Recurrence.{Transition, transition_at}
use Rattle.laws_of_recurrence.specs.Seen.{Differs}

-- the next transition of a runner
abbrev pub transition_here : Runner → TapeView → Transition
transition_here runner view =
    record { state = state_of runner; symbol = cell view.content (position_of runner) }

-- a run goes on for ever, and is inside the bounds up to this step
pub record IsOpen (table : Table) (bounds : Bounds) (last : ℕ) : Type 0 where
  pub never : Never table
  pub inside : Inside table bounds last

-- a runner is at step n
pub record IsAt (table : Table) (bounds : Bounds) (n : ℕ) (runner : Runner) (view : TapeView) : Type 0 where
  pub stands : Stands table runner view
  pub steps : steps_of runner ≡ n
  pub limit : view.limit ≡ bounds.cells

-- whether the transitions from `first` on repeat with a distance, as far as the later of both is before
-- `end`; else they don't repeat with it
abbrev pub TellsRepeats : Table → ℕ → ℕ → ℕ → Bool → Type 0
TellsRepeats table first distance end true =
    (n : ℕ) → first ≤ n → n + distance < end → transition_at table (n + distance) ≡ transition_at table n
TellsRepeats table first distance end false = Differs table first distance

-- no farther than one end of a tape is from the other
pub record IsNear (shift : ℤ) : Type 0 where
  pub low : neg_ℤ (pos MAX_CELLS +ℤ pos MAX_CELLS) ≤ℤ shift
  pub high : shift ≤ℤ (pos MAX_CELLS +ℤ pos MAX_CELLS)
