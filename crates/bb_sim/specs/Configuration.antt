-- A configuration and the step to the next one, as Radó and Lin and Radó (1965) have them: a table, a
-- head on an endless tape, and one state that halts. That an undefined entry makes no step is this
-- project's choice.
use Rattle.std.specs.Prelude.{ℕ, Option, Some, None, ℤ, pos, ◌+ℤ◌, ◌-ℤ◌}
use Rattle.bb_machine.specs.declared.entry.Dir.{Dir}
use Rattle.bb_machine.specs.declared.entry.Dir.TheVariants.{L, R}
use Rattle.bb_machine.specs.declared.entry.Next.{Next}
use Rattle.bb_machine.specs.declared.entry.Next.TheVariants.{State, Halt}
use Rattle.bb_machine.specs.declared.entry.Entry.{Entry}
use Rattle.bb_machine.specs.declared.entry.Entry.TheVariants.{Undefined, Go}
use Rattle.bb_machine.specs.Machine.{Table, entry_of}
use Rattle.bb_tape.specs.Content.{Content, blank, cell, with_cell}

-- where a machine stands: its state (`Halt` is Z), the position of the head, and the tape
pub record Configuration : Type 0 where
  pub state : Next
  pub head : ℤ
  pub tape : Content

-- state A, at position 0, on the blank tape
abbrev pub start : Configuration
start = record { state = State 0; head = pos 0; tape = blank }

-- left is one less, right is one more
abbrev pub beside : Dir → ℤ → ℤ
beside L p = p -ℤ pos 1
beside R p = p +ℤ pos 1

-- what an entry leads to: it writes under the head, moves and changes state; an undefined one leads nowhere
abbrev pub followed : Entry → Configuration → Option Configuration
followed Undefined c = None
followed (Go write dir next) c =
    Some (record { state = next; head = beside dir c.head; tape = with_cell c.tape c.head write })

-- the entry that applies: none in Z, else that for the state and the symbol under the head
abbrev pub entry_at : Table → Next → ℕ → Entry
entry_at table (State q) symbol = entry_of table q symbol
entry_at table Halt symbol = Undefined

-- the next configuration, where there is one
unfoldable pub next : Table → Configuration → Option Configuration
next table c = followed (entry_at table c.state (cell c.tape c.head)) c
