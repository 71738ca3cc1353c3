-- The recurrence of a machine by that of another one, which it completes after a change: so by its line in a
-- complete list. These notions are this project's own.
use Rattle.std.specs.Prelude.{◌↔◌, ℕ, ℤ}
use Rattle.bb_machine.specs.Machine.{Table}
use Rattle.bb_sim.specs.Run.{Never}
use Rattle.laws_of_verdicts.specs.Change.{Change, changed_next, placed}
use Rattle.laws_of_verdicts.specs.LineOf.{CompletesChanged}
use Rattle.laws_of_recurrence.specs.Recurrence.{RepeatsExactly, Transition}
use Rattle.laws_of_recurrence.specs.Shift.{IsShift}
use Rattle.laws_of_recurrence.specs.Uses.{IsQuasihalt, TablePart, Uses, of_state, of_transition}

-- a part of a table in new names
abbrev pub changed_transition : Change → Transition → Transition
changed_transition change used =
    record { state = changed_next change used.state; symbol = change.symbols.new used.symbol }

abbrev pub changed_part : Change → TablePart → TablePart
changed_part change (of_state state) = of_state (change.states.new state)
changed_part change (of_transition used) = of_transition (changed_transition change used)

-- the second machine has the exact start and period of the first one and quasihalts after as many steps; its
-- shift is on the other side where left and right are swapped; each step uses the part that has the new name
pub record RecursAlike (change : Change) (table machine : Table) : Type 0 where
  pub exact : (start period : ℕ) → RepeatsExactly table start period → RepeatsExactly machine start period
  pub shift : (start period : ℕ) (shift : ℤ) → IsShift table start period shift
      → IsShift machine start period (placed change.mirrored shift)
  pub uses : (part : TablePart) (n : ℕ) → Uses table part n ↔ Uses machine (changed_part change part) n
  pub quasihalts : (steps : ℕ) → IsQuasihalt table steps → IsQuasihalt machine steps

-- a machine recurs as one that never halts and that it completes after a change
abbrev pub LinesKeepRecurrences : Type 0
LinesKeepRecurrences = (change : Change) (table machine : Table) → CompletesChanged change table machine
    → Never table → RecursAlike change table machine
