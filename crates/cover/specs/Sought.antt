-- The line that is sought in a list: this project's own.
use Rattle.std.specs.Prelude.{◌≡◌, ℕ, List}
use Rattle.bb_machine.specs.Limits.{Bounds}
use Rattle.bb_machine.specs.Machine.{Table, text}
use Rattle.bb_cover.specs.declared.line.Line.{Line}
use Rattle.bb_cover.specs.Line.{IsLine}

-- these are the words of the machine of a machine's line within the bounds
abbrev pub IsLineText : Table → Bounds → List ℕ → Type 0
IsLineText machine bounds words = (line : Line) × IsLine machine bounds line × (words ≡ text line.machine)
