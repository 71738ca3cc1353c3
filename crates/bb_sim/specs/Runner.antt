-- The meaning of a runner, and the effect of one call of `advance`.
use Rattle.std.specs.Prelude.{◌≡◌, ◌≢◌, ℕ, ◌+◌, ◌<◌, ◌≤◌, Some, length, ℤ, pos, ◌+ℤ◌, ◌-ℤ◌}
use Rattle.bb_machine.specs.declared.entry.Next.{Next}
use Rattle.bb_machine.specs.Entry.{IsNextOf}
use Rattle.bb_machine.specs.Limits.{Bounds}
use Rattle.bb_machine.specs.Machine.{Table, symbols_of}
use Rattle.bb_tape.specs.Content.{cell}
use Rattle.bb_tape.specs.TapeView.{TapeView, IsBeside}
use Rattle.bb_sim.specs.declared.meter.Meter.{Meter}
use Rattle.bb_sim.specs.declared.runner.Runner.{Runner}
use Rattle.bb_sim.specs.declared.runner.Moved.{Moved}
use Rattle.bb_sim.specs.declared.runner.Moved.TheVariants.{Halted, NoSteps, NoCells, Stepped}
use Rattle.bb_sim.specs.Run.{conf, HaltsAt}
use Rattle.bb_sim.specs.Span.{counted_head, least, greatest, span, Inside, IsLastInside}
use Rattle.bb_sim.specs.Meter.{stepped}

-- the state of the configuration where a runner stands; `Halt` is Z
abbrev pub state_of : Runner → Next
state_of runner = runner.state

-- the position of its head
abbrev pub position_of : Runner → ℤ
position_of runner = runner.position

-- how many steps it has made
abbrev pub steps_of : Runner → ℕ
steps_of runner = runner.steps

-- the least position of its window
abbrev pub low_of : Runner → ℤ
low_of runner = runner.low

-- the greatest position of its window
abbrev pub high_of : Runner → ℤ
high_of runner = (runner.low +ℤ pos runner.cells) -ℤ pos 1

-- a runner that has made n steps is at configuration n, and the tape's window is that of the span up to n
pub record Stands (table : Table) (runner : Runner) (view : TapeView) : Type 0 where
  pub at : conf table (steps_of runner)
      ≡ Some (record { state = state_of runner; head = position_of runner; tape = view.content })
  pub low : low_of runner ≡ least (counted_head table) (steps_of runner)
  pub high : high_of runner ≡ greatest (counted_head table) (steps_of runner)
  pub window_low : view.low ≡ low_of runner
  pub window_high : view.high ≡ high_of runner
  pub state_named : IsNextOf (length table) (state_of runner)
  pub symbols_named : (p : ℤ) → cell view.content p < symbols_of table

-- nothing has changed
pub record Stays (old new : Runner) (view_old view_new : TapeView) (meter_old meter_new : Meter)
    : Type 0 where
  pub runner : new ≡ old
  pub view : view_new ≡ view_old
  pub meter : meter_new ≡ meter_old

-- the result of a runner at step n, by the first condition that holds: the machine halts here; the limit of
-- steps is reached; the next step would need more cells; else it steps
abbrev pub Answers : Table → Bounds → ℕ → Moved → Type 0
Answers table bounds n Halted = HaltsAt table n
Answers table bounds n NoSteps = (HaltsAt table n → ⊥) × (n ≡ bounds.steps)
Answers table bounds n NoCells =
    (HaltsAt table n → ⊥) × (n ≢ bounds.steps) × (bounds.cells < span table (n + 1))
Answers table bounds n Stepped =
    (HaltsAt table n → ⊥) × (n ≢ bounds.steps) × (span table (n + 1) ≤ bounds.cells)

-- only a step changes anything: it is one step more, and the widest window is kept
abbrev pub Moves : Table → Runner → Runner → TapeView → TapeView → Meter → Meter → Moved → Type 0
Moves table old new view_old view_new meter_old meter_new Stepped =
    (steps_of new ≡ steps_of old + 1) × (meter_new ≡ stepped meter_old (span table (steps_of old + 1)))
Moves table old new view_old view_new meter_old meter_new Halted =
    Stays old new view_old view_new meter_old meter_new
Moves table old new view_old view_new meter_old meter_new NoSteps =
    Stays old new view_old view_new meter_old meter_new
Moves table old new view_old view_new meter_old meter_new NoCells =
    Stays old new view_old view_new meter_old meter_new

-- where a runner stands after a call: after a step at a step inside, its head in the window or next to it;
-- where it did not step, at the last step inside
abbrev pub Reaches : Table → Bounds → Runner → TapeView → Moved → Type 0
Reaches table bounds runner view Stepped =
    Inside table bounds (steps_of runner) × IsBeside view (position_of runner)
Reaches table bounds runner view Halted = IsLastInside table bounds (steps_of runner)
Reaches table bounds runner view NoSteps = IsLastInside table bounds (steps_of runner)
Reaches table bounds runner view NoCells = IsLastInside table bounds (steps_of runner)
