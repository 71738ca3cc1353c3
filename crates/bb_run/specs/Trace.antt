-- What `trace` prints: this project's own.
use Rattle.std.specs.Prelude.{◌≡◌, ℕ, ◌+◌, ◌<◌, ◌≤◌, ◌⊎◌, ◌↔◌, IsTrue, List, [], ◌∷◌, ◌++◌, length, take, map}
use Rattle.std.specs.Prelude.{Option, Some, None, ℤ, pos, ◌+ℤ◌, decimal}
use Rattle.std.specs.Fmt.{signed_decimal}
use Rattle.std.specs.Io.KnownBytes.{Appends}
use Rattle.std.specs.List.{flat_map, range_with_len}
use Rattle.bb_machine.specs.declared.entry.Next.{Next}
use Rattle.bb_machine.specs.Entry.{next_letter}
use Rattle.bb_machine.specs.Limits.{Bounds}
use Rattle.bb_machine.specs.Machine.{Table, IsMachineLine, IsTextOf}
use Rattle.bb_machine.specs.Column.{IsColumn}
use Rattle.bb_tape.specs.Content.{Content, cell}
use Rattle.bb_sim.specs.Configuration.{Configuration}
use Rattle.bb_sim.specs.Run.{conf}
use Rattle.bb_sim.specs.Span.{counted_head, least, span, IsLastInside}
use Rattle.bb_sim.specs.Meter.{zero_meter}
use Rattle.bb_cert.specs.verdict.Line.{refusal_text}
use Rattle.bb_run.specs.declared.summary.Summary.{Summary}
use Rattle.bb_run.specs.declared.tracing.Form.{Form}
use Rattle.bb_run.specs.declared.tracing.Form.TheVariants.{Plain, WithLow}

-- the digits of so many cells, from one position on
abbrev pub cells_text : Content → ℤ → ℕ → List ℕ
cells_text tape low count = map (λ i. 48 + cell tape (low +ℤ pos i)) (range_with_len 0 count)

-- the number of a step, the letter of a state and the position of a head, each with a space behind it
abbrev pub head_text : ℕ → Next → ℤ → List ℕ
head_text n state head = decimal n ++ (32 ∷ next_letter state ∷ 32 ∷ []) ++ signed_decimal head ++ 32 ∷ []

-- what stands before the cells: the same, and in the form that has it the position of the first cell
abbrev pub front_text : Form → ℕ → Next → ℤ → ℤ → List ℕ
front_text Plain n state head low = head_text n state head
front_text WithLow n state head low = head_text n state head ++ signed_decimal low ++ 32 ∷ []

abbrev pub text_at : Form → Table → ℕ → Option Configuration → List ℕ
text_at form table n None = []
text_at form table n (Some c) =
    front_text form n c.state c.head (least (counted_head table) n)
    ++ cells_text c.tape (least (counted_head table) n) (span table n)

-- the line of a step: its number, and the state, the position of the head and the cells of that
-- configuration, over the positions of the span up to there; in the form that has it also the first of these
-- positions, before the cells
abbrev pub line_text : Form → Table → ℕ → List ℕ
line_text form table n = text_at form table n (conf table n)

-- the same without that position
abbrev pub step_text : Table → ℕ → List ℕ
step_text table n = line_text Plain table n

-- the lines of so many steps, from step 0 on
abbrev pub step_lines : Table → ℕ → List (List ℕ)
step_lines table count = map (step_text table) (range_with_len 0 count)

-- the line is a machine's text, and these are the lines of its steps up to the last one inside
pub record IsRunTrace (bounds : Bounds) (line : List ℕ) (lines : List (List ℕ)) : Type 0 where
  pub table : Table
  pub of : IsTextOf table line
  pub last : ℕ
  pub is_last : IsLastInside table bounds last
  pub are_lines : lines ≡ step_lines table (last + 1)

-- the line is no machine's text, and the one line names its column
pub record IsRefusalTrace (line : List ℕ) (lines : List (List ℕ)) : Type 0 where
  pub no_machine : IsMachineLine line → ⊥
  pub column : ℕ
  pub is_column : IsColumn line column
  pub are_lines : lines ≡ refusal_text column ∷ []

-- these are the lines of the trace of a line
abbrev pub IsTrace : Bounds → List ℕ → List (List ℕ) → Type 0
IsTrace bounds line lines = IsRunTrace bounds line lines ⊎ IsRefusalTrace line lines

-- lines as bytes, each with a newline
abbrev pub lines_text : List (List ℕ) → List ℕ
lines_text lines = flat_map (λ line. line ++ 10 ∷ []) lines

-- known bytes grow by the first few of the lines, not by all of them
pub record AppendsSomeLines (old new : Option (List ℕ)) (lines : List (List ℕ)) : Type 0 where
  pub count : ℕ
  pub not_all : count < length lines
  pub appends : Appends old new (lines_text (take count lines))

-- the line is the text of a machine whose run, up to the limit of steps, stays within the cells
pub record IsUncut (bounds : Bounds) (line : List ℕ) : Type 0 where
  pub table : Table
  pub of : IsTextOf table line
  pub fits : span table bounds.steps ≤ bounds.cells

-- `clean` means that the line is a machine's text and its run not cut by the limit of cells; nothing is
-- counted
pub record IsTraceSummary (bounds : Bounds) (line : List ℕ) (summary : Summary) : Type 0 where
  pub clean : IsTrue summary.clean ↔ IsUncut bounds line
  pub peak : summary.peak ≡ zero_meter
