-- Two steps of a machine's run, and a run that was saved at the first of them.
use Rattle.std.specs.Prelude.{ℕ, ◌-◌, ◌<◌}
use Rattle.bb_tape.specs.TapeView.{TapeView}
use Rattle.bb_sim.specs.declared.runner.Runner.{Runner}
use Rattle.bb_sim.specs.Span.{Inside}
use Rattle.laws_of_recurrence.specs.Recurrence.{Repeats}
use Rattle.bb_recurrence.specs.declared.finder.Tapes.{Tapes}
use Rattle.bb_recurrence.specs.declared.period.SavedPair.{SavedPair}
use Rattle.bb_recurrence.specs.declared.recurrence.KnownPair.{KnownPair}
use Rattle.bb_recurrence.specs.Lockstep.{IsAt, IsOpen}

-- how far the steps of a pair are apart
abbrev pub distance_of : KnownPair → ℕ
distance_of pair = pair.second - pair.first

-- a pair is in order, the run repeats from its first step on, and is inside the limits up to its second
pub record IsRepeating (pair : KnownPair) : Type 0 where
  pub order : pair.first < pair.second
  pub repeats : Repeats pair.machine.now pair.first (distance_of pair)
  pub inside : Inside pair.machine.now pair.limits.now pair.second

-- the run of a pair goes on for ever, and is inside the limits up to the second step
abbrev pub IsOpenPair : KnownPair → Type 0
IsOpenPair pair = IsOpen pair.machine.now pair.limits.now pair.second

-- a runner is at a step of the run of a pair
abbrev pub IsAtStep : KnownPair → ℕ → Runner → TapeView → Type 0
IsAtStep pair n runner view = IsAt pair.machine.now pair.limits.now n runner view

-- the run of a saved pair goes on, and its runner is at the first step, on the saved tape
pub record IsSaved {T : Type 0} (view : T → TapeView) (tapes : Tapes T) (saved : SavedPair) : Type 0 where
  pub goes_on : IsOpenPair saved.pair
  pub at : IsAtStep saved.pair saved.pair.first saved.runner (view tapes.pair.saved)
