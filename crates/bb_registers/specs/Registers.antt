-- A run in registers: this project's own.
use Rattle.std.specs.Prelude.{◌≡◌, ◌≢◌, ℕ, zero, suc, ◌+◌, ◌*◌, ◌/◌, ◌%◌, ◌^◌, ◌<◌, ◌≤◌, ◌↔◌, pos, ◌+ℤ◌}
use Rattle.std.specs.Prelude.{◌-ℤ◌, ◌⊎◌, bit_and, bit_xor, length, ◌≤ℤ◌}
use Rattle.std.specs.Int.{bit_at, int_max, int_min}
use Rattle.bb_machine.specs.declared.entry.Next.TheVariants as next
use Rattle.bb_machine.specs.Limits.{Bounds}
use Rattle.bb_machine.specs.Machine.{Table, symbols_of}
use Rattle.bb_tape.specs.Content.{cell}
use Rattle.bb_tape.specs.TapeView.{TapeView, IsSound}
use Rattle.bb_sim.specs.declared.runner.Runner.{Runner}
use Rattle.bb_sim.specs.Runner.{Stands, position_of, state_of, steps_of}
use Rattle.bb_sim.specs.Configuration.{entry_at}
use Rattle.bb_sim.specs.Span.{Inside, IsLastInside, counted_head, span}
use Rattle.bb_sim.specs.Outcome.{IsOutcome}
use Rattle.bb_registers.specs.declared.registers.Registers.{Registers}
use Rattle.bb_machine.specs.declared.packed.PackedTable.{PackedTable}
use Rattle.bb_registers.specs.declared.run.RegisterRun.{RegisterRun}
use Rattle.bb_registers.specs.declared.run.RegisterMove.{RegisterMove}
use Rattle.bb_registers.specs.declared.run.RegisterMove.TheVariants.{Stepped, Ended, Outside}
use Rattle.bb_sim.specs.declared.simulation.Outcome.{Outcome}
use Rattle.bb_sim.specs.declared.simulation.Outcome.TheVariants.{Halt}
use Rattle.bb_registers.specs.BitCells.{IsInWord, bits_content}
use Rattle.bb_machine.specs.Packed.{IsPackedEntry}

-- the bits after a write that flips the head's where the third number is not 0
abbrev pub flipped_bits : ℕ → ℕ → ℕ → ℕ
flipped_bits bits head zero = bits
flipped_bits bits head (suc flip) = bit_xor bits head

-- the head's bit after a move to the right where the second number is not 0, else to the left
abbrev pub moved_head : ℕ → ℕ → ℕ
moved_head head zero = head / 2
moved_head head (suc right) = head * 2 % 2 ^ 64

-- the registers after a step by a table, wherever its entry goes
pub record StepsTo (packed : PackedTable) (old new : Registers) : Type 0 where
  pub zero : bit_and old.bits old.head ≡ 0 → new.entry ≡ packed.zero / 2 ^ (old.entry % 64)
  pub one : bit_and old.bits old.head ≢ 0 → new.entry ≡ packed.one / 2 ^ (old.entry % 64)
  pub bits : new.bits ≡ flipped_bits old.bits old.head (bit_at new.entry 6)
  pub head : new.head ≡ moved_head old.head (bit_at new.entry 7)

-- the registers are at the configuration at which a runner stands
pub record MatchesRunner (registers : Registers) (runner : Runner) (view : TapeView) : Type 0 where
  pub place : ℕ
  pub within : place < 64
  pub head : registers.head ≡ 2 ^ place
  pub position : position_of runner ≡ pos place -ℤ pos 32
  pub content : view.content ≡ bits_content registers.bits
  pub state : ℕ
  pub state_is : state_of runner ≡ next.State state
  pub entry : registers.entry % 64 ≡ 9 * state
  pub fits : registers.bits < 2 ^ 64

-- two runs have the same state, head and cells
abbrev pub IsSameConfiguration : Registers → Registers → Type 0
IsSameConfiguration a b = (a.bits ≡ b.bits) × (a.head ≡ b.head) × (a.entry % 64 ≡ b.entry % 64)

-- these bits are those of the positions of the window, all of them among the 64, with room for so many more
-- cells
pub record MatchesWindow (window room : ℕ) (view : TapeView) : Type 0 where
  pub low_in_word : IsInWord view.low
  pub high_in_word : IsInWord view.high
  pub bits : (i : ℕ) → i < 64
      → (bit_at window i ≡ 1) ↔ ((view.low ≤ℤ (pos i -ℤ pos 32)) × ((pos i -ℤ pos 32) ≤ℤ view.high))
  pub fits : window < 2 ^ 64
  pub room_is : ((view.high -ℤ view.low) +ℤ pos 1) +ℤ pos room ≡ pos view.limit

-- the state of a machine's run within the bounds, kept in registers: there is a runner, and the view of a
-- tape, that stand for the same configuration, steps and window
pub record IsRegisterRun (table : Table) (bounds : Bounds) (run : RegisterRun) : Type 0 where
  pub runner : Runner
  pub view : TapeView
  pub stands : Stands table runner view
  pub sound : IsSound view
  pub limit : view.limit ≡ bounds.cells
  pub steps_is : run.steps ≡ steps_of runner
  pub few : run.steps ≤ bounds.steps
  pub at : MatchesRunner run.registers runner view
  pub window_is : MatchesWindow run.window run.room view

-- the head, Z not counted, is among the 64 positions at each step up to n
abbrev pub StaysInWord : Table → ℕ → Type 0
StaysInWord table n = (m : ℕ) → m ≤ n → IsInWord (counted_head table m)

-- the machine has two symbols and at most seven states, and its run stays in 64 cells up to step n
pub record FitsRegisters (table : Table) (n : ℕ) : Type 0 where
  pub symbols : symbols_of table ≡ 2
  pub states : length table ≤ 7
  pub word : StaysInWord table n

-- the low nine bits of a number are the entry that applies
abbrev pub IsNextEntry : Table → Bounds → RegisterRun → ℕ → Type 0
IsNextEntry table bounds run f = (known : IsRegisterRun table bounds run)
    → IsPackedEntry f (cell known.view.content (position_of known.runner))
    (entry_at table (state_of known.runner) (cell known.view.content (position_of known.runner)))

-- the last step of a run with this outcome: that of the halt, or else the last that was made
abbrev pub last_step : RegisterRun → Outcome → ℕ
last_step run (Halt steps score) = steps
last_step run outcome = run.steps

-- the run ends with an outcome, at the last step inside: where it stood, or one step on in Z; its window
-- stays
pub record EndsWith {table : Table} {bounds : Bounds} {run : RegisterRun} (known : IsRegisterRun table bounds run)
    (outcome : Outcome) : Type 0 where
  pub runner : Runner
  pub view : TapeView
  pub stands : Stands table runner view
  pub last : IsLastInside table bounds (steps_of runner)
  pub no_further : (steps_of runner ≡ steps_of known.runner)
      ⊎ ((state_of runner ≡ next.Halt) × (steps_of runner ≡ steps_of known.runner + 1))
  pub is_outcome : IsOutcome table bounds outcome
  pub made : last_step run outcome ≡ steps_of runner
  pub cells : span table (steps_of runner) + run.room ≡ bounds.cells

-- the run is at the next configuration, not in Z, by a step inside
pub record ContinuesTo {table : Table} {bounds : Bounds} {run : RegisterRun}
    (known : IsRegisterRun table bounds run) (new : RegisterRun) : Type 0 where
  pub next : IsRegisterRun table bounds new
  pub steps : steps_of next.runner ≡ steps_of known.runner + 1
  pub inside : Inside table bounds (steps_of next.runner)
  pub low : next.view.low ≡ int_min known.view.low (position_of next.runner)
  pub high : next.view.high ≡ int_max known.view.high (position_of next.runner)
  pub right : bit_at new.registers.entry 7 ≡ 1 → position_of next.runner ≡ position_of known.runner +ℤ pos 1
  pub left : (bit_at new.registers.entry 7 ≡ 1 → ⊥)
      → position_of next.runner ≡ position_of known.runner -ℤ pos 1

-- what a call does, wherever the run stood
abbrev pub AdvancesRegisters : Table → Bounds → RegisterRun → RegisterRun → RegisterMove → Type 0
AdvancesRegisters table bounds old new Stepped =
    ((known : IsRegisterRun table bounds old) → ContinuesTo known new) × (new.steps ≡ old.steps + 1)
AdvancesRegisters table bounds old new (Ended outcome) =
    (new ≡ old) × ((known : IsRegisterRun table bounds old) → EndsWith known outcome)
AdvancesRegisters table bounds old new Outside = (new ≡ old) × ((known : IsRegisterRun table bounds old)
    → StaysInWord table (steps_of known.runner + 1) → ⊥)
