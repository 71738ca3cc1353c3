-- The text of an entry of a machine's table, and which entries a machine may have. The form of the
-- text is bbchallenge's standard text format for Turing machines; that `---` is an undefined
-- transition and that `Z` alone halts is this project's choice.
use Rattle.std.specs.Prelude.{ℕ, ◌+◌, ◌<◌, List, [], ◌∷◌, Option, Some, None, ℤ, pos, neg_ℤ}
use Rattle.bb_machine.specs.declared.entry.Dir.{Dir}
use Rattle.bb_machine.specs.declared.entry.Dir.TheVariants.{L, R}
use Rattle.bb_machine.specs.declared.entry.Next.{Next}
use Rattle.bb_machine.specs.declared.entry.Next.TheVariants.{State, Halt}
use Rattle.bb_machine.specs.declared.entry.Entry.{Entry}
use Rattle.bb_machine.specs.declared.entry.Entry.TheVariants.{Undefined, Go}
use Rattle.bb_machine.specs.declared.entry.Step.{Step}

-- `L` or `R`
abbrev pub dir_letter : Dir → ℕ
dir_letter L = 76
dir_letter R = 82

-- `A` for state 0, `B` for state 1 and so on; `Z` for the halting state
abbrev pub next_letter : Next → ℕ
next_letter (State q) = 65 + q
next_letter Halt = 90

-- three bytes: `---`, or the digit that is written, the direction and the next state
abbrev pub entry_text : Entry → List ℕ
entry_text Undefined = 45 ∷ 45 ∷ 45 ∷ []
entry_text (Go write dir next) = (48 + write) ∷ dir_letter dir ∷ next_letter next ∷ []

-- a state of the machine, or the halting state
abbrev pub IsNextOf : ℕ → Next → Type 0
IsNextOf states (State q) = q < states
IsNextOf states Halt = Unit {0}

-- an entry of a machine with so many states and symbols names only these
abbrev pub IsEntryOf : ℕ → ℕ → Entry → Type 0
IsEntryOf states symbols Undefined = Unit {0}
IsEntryOf states symbols (Go write dir next) = (write < symbols) × IsNextOf states next

-- a direction as a number: -1 or 1
abbrev pub offset_of : Dir → ℤ
offset_of L = neg_ℤ (pos 1)
offset_of R = pos 1

-- the effect of an entry with a next state: its symbol, its direction as a number, its state; none for other
-- entries
abbrev pub step_of : Entry → Option Step
step_of Undefined = None
step_of (Go write dir (State state)) = Some (record { write = write; offset = offset_of dir; state = state })
step_of (Go write dir Halt) = None
