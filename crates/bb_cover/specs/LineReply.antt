-- The reply to a machine: its line. This project's own.
use Rattle.std.specs.Prelude.{◌≡◌, ◌⊎◌, ℕ, zero, suc, ◌+◌, Bool, false, true, List, [], ◌∷◌, ◌++◌}
use Rattle.std.specs.Prelude.{codes, decimal, length}
use Rattle.bb_machine.specs.declared.machine.TheConstants.{MAX_STATES, MAX_SYMBOLS}
use Rattle.bb_machine.specs.Entry.{IsEntryOf, entry_text}
use Rattle.bb_machine.specs.Limits.{Bounds}
use Rattle.bb_machine.specs.Machine.{Table, IsMachineLine, IsTextOf, symbols_of, text}
use Rattle.bb_cover.specs.declared.line.How.{How}
use Rattle.bb_cover.specs.declared.line.How.TheVariants.{Runs, Halts}
use Rattle.bb_cover.specs.declared.line.Line.{Line}
use Rattle.bb_cover.specs.declared.naming.Naming.{Naming}
use Rattle.bb_cover.specs.Line.{IsLine}
use Rattle.bb_cover.specs.Names.{name_in}

-- the new names of the first so many numbers, as letters from this one on
abbrev pub names_text : ℕ → List ℕ → ℕ → List ℕ
names_text first names zero = []
names_text first names (suc n) = names_text first names n ++ (first + name_in names n) ∷ []

abbrev pub mirror_text : Bool → List ℕ
mirror_text false = codes " same "
mirror_text true = codes " mirror "

-- the change: whether it swaps left and right, the names of the states, and those of the symbols
abbrev pub naming_text : ℕ → ℕ → Naming → List ℕ
naming_text states symbols naming = mirror_text naming.mirrored
    ++ (names_text 65 naming.states.new states ++ (codes " " ++ names_text 48 naming.symbols.new symbols))

-- the end of the line's run, and the machine's own entry there
abbrev pub how_text : How → List ℕ
how_text Runs = codes " runs"
how_text (Halts halt) = codes " halt "
    ++ (decimal halt.steps ++ (codes " " ++ (decimal halt.score ++ (codes " " ++ entry_text halt.entry))))

-- the entry has a text
abbrev pub HasEntryText : How → Type 0
HasEntryText Runs = Unit {0}
HasEntryText (Halts halt) = IsEntryOf MAX_STATES MAX_SYMBOLS halt.entry

-- a machine and its line, without a newline
abbrev pub line_text : Table → Line → List ℕ
line_text table line = text table ++ (codes " line " ++ (text line.machine
    ++ (naming_text (length table) (symbols_of table) line.change ++ how_text line.how)))

-- the line of an input is the text of a machine, and the reply tells its line
pub record IsFoundReply (bounds : Bounds) (line reply : List ℕ) : Type 0 where
  pub table : Table
  pub is_text : IsTextOf table line
  pub found : Line
  pub is_line : IsLine table bounds found
  pub is_reply : reply ≡ line_text table found

-- it is the text of no machine
pub record IsNoMachineReply (line reply : List ℕ) : Type 0 where
  pub none : IsMachineLine line → ⊥
  pub is_reply : reply ≡ codes "unread"

abbrev pub IsLineReply : Bounds → List ℕ → List ℕ → Type 0
IsLineReply bounds line reply = IsFoundReply bounds line reply ⊎ IsNoMachineReply line reply
