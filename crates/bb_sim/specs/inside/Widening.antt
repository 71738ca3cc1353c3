-- A step and a growing window, for the runner's own functions. No public contract cites it.
use Rattle.std.specs.Prelude.{◌≡◌, ◌+◌, ◌<◌, ◌≤◌, Bool, true, false, ℤ}
use Rattle.std.specs.Int.{int_min, int_max}
use Rattle.bb_machine.specs.declared.entry.Next.{Next}
use Rattle.bb_machine.specs.declared.entry.Next.TheVariants.{State, Halt}
use Rattle.bb_machine.specs.declared.entry.Entry.{Entry}
use Rattle.bb_machine.specs.declared.entry.Entry.TheVariants.{Undefined, Go}
use Rattle.bb_machine.specs.Machine.{Table, symbols_of}
use Rattle.bb_tape.specs.TapeView.{TapeView, visited}
use Rattle.bb_sim.specs.declared.runner.Runner.{Runner}
use Rattle.bb_sim.specs.CellsBetween.{cells_between}
use Rattle.bb_sim.specs.Runner.{state_of, position_of, steps_of, low_of, high_of}

-- an entry that goes to no state: undefined, or into Z with a symbol of the machine
abbrev pub GoesNowhere : Table → Entry → Type 0
GoesNowhere table Undefined = Unit {0}
GoesNowhere table (Go write dir (State q)) = ⊥
GoesNowhere table (Go write dir Halt) = write < symbols_of table

-- only the window has changed: it has taken in a position
pub record IsWidened (old new : Runner) (position : ℤ) : Type 0 where
  pub state : state_of new ≡ state_of old
  pub head : position_of new ≡ position_of old
  pub steps : steps_of new ≡ steps_of old
  pub low : low_of new ≡ int_min (low_of old) position
  pub high : high_of new ≡ int_max (high_of old) position

-- the window takes in a position just where the limit allows it; else nothing has changed
abbrev pub Widens : Runner → Runner → TapeView → TapeView → ℤ → Bool → Type 0
Widens old new view_old view_new position true =
    (cells_between (int_min view_old.low position) (int_max view_old.high position) ≤ view_old.limit)
    × (view_new ≡ visited view_old position)
    × IsWidened old new position
Widens old new view_old view_new position false =
    (view_old.limit < cells_between (int_min view_old.low position) (int_max view_old.high position))
    × (view_new ≡ view_old) × (new ≡ old)

-- one step more, in a state, at a position, with the same window
pub record StepsTo (old new : Runner) (next : Next) (position : ℤ) : Type 0 where
  pub state : state_of new ≡ next
  pub head : position_of new ≡ position
  pub steps : steps_of new ≡ steps_of old + 1
  pub low : low_of new ≡ low_of old
  pub high : high_of new ≡ high_of old
