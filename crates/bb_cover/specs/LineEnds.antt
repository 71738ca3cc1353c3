-- The result of the lines of a list's machines: the input read, and the output written by then. This
-- project's own.
use Rattle.std.specs.Prelude.{ℕ, List, Option, Result}
use Rattle.bb_machine.specs.Limits.{Bounds}
use Rattle.bb_lines.specs.declared.fault.Fault.{Fault}
use Rattle.bb_lines.specs.Ends.{ListEnds}
use Rattle.bb_cover.specs.LineReply.{IsLineReply}

-- each line has its reply
abbrev pub LineEnds : Bounds → Option (List ℕ) → Option (List ℕ) → Option (List ℕ) → Option (List ℕ)
    → Result (Unit {0}) Fault → Type 0
LineEnds bounds left left_then held held_then end =
    ListEnds (IsLineReply bounds) (λ lines done. Unit {0}) left left_then held held_then end
