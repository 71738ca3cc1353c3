-- The effect of a reader's lines on a sink. This project's own.
use Rattle.std.specs.Prelude.{ℕ, List, Option, Result, OnOk}
use Rattle.std.specs.List.{FoldsTo}
use Rattle.std.specs.Io.KnownBytes.{Consumes, IsAtEnd}
use Rattle.bb_lines.specs.declared.fault.Fault.{Fault}
use Rattle.bb_lines.specs.Lines.{lines}

-- by the bytes left in the reader before and then: some were read; without a fault the reader is at its end,
-- and the sink accepted the lines of these bytes, in order
abbrev pub DrainsLines : {A : Type 0} → (A → List ℕ → A → Type 0) → A → A → Option (List ℕ)
    → Option (List ℕ) → Result (Unit {0}) Fault → Type 0
DrainsLines took first now left left_then end = (taken : List ℕ) × Consumes left left_then taken
    × OnOk end (IsAtEnd left_then × FoldsTo took first (lines taken) now)
