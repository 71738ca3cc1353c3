-- What a sampled trace prints: the lines of the steps `from`, `from + every` and so on, each with the
-- position of its first cell. This project's own.
use Rattle.std.specs.Prelude.{◌≡◌, ℕ, ◌+◌, ◌*◌, ◌<◌, ◌≤◌, ◌⊎◌, ◌↔◌, List, length, take, map, Option, Result}
use Rattle.std.specs.Io.KnownBytes.{Appends}
use Rattle.std.specs.List.{range_with_len}
use Rattle.bb_machine.specs.Limits.{Bounds}
use Rattle.bb_machine.specs.Machine.{Table, IsTextOf}
use Rattle.bb_sim.specs.Span.{IsLastInside}
use Rattle.bb_lines.specs.declared.fault.Fault.{Fault}
use Rattle.bb_lines.specs.Ends.{AppendsPrefix, MatchEnd}
use Rattle.bb_run.specs.declared.summary.Summary.{Summary}
use Rattle.bb_run.specs.declared.tracing.Form.{Form}
use Rattle.bb_run.specs.declared.tracing.Form.TheVariants.{WithLow}
use Rattle.bb_run.specs.Trace.{line_text, lines_text, IsRefusalTrace, IsTraceSummary}

-- the lines of so many of these steps
abbrev pub sampled_lines : Form → Table → ℕ → ℕ → ℕ → List (List ℕ)
sampled_lines form table from every count =
    map (λ k. line_text form table (from + every * k)) (range_with_len 0 count)

-- so many of these steps are up to the last
pub record IsSampleSize (from every last count : ℕ) : Type 0 where
  pub are : (k : ℕ) → (k < count) ↔ (from + every * k ≤ last)

-- the line is a machine's text, and these are the lines of those of these steps that are up to the last one
-- inside
pub record IsSampledRun (form : Form) (bounds : Bounds) (from every : ℕ) (line : List ℕ)
    (lines : List (List ℕ)) : Type 0 where
  pub table : Table
  pub of : IsTextOf table line
  pub last : ℕ
  pub is_last : IsLastInside table bounds last
  pub count : ℕ
  pub is_size : IsSampleSize from every last count
  pub are_lines : lines ≡ sampled_lines form table from every count

-- these are the lines, in this form, of the sampled trace of a line
abbrev pub IsSampledTraceIn : Form → Bounds → ℕ → ℕ → List ℕ → List (List ℕ) → Type 0
IsSampledTraceIn form bounds from every line lines =
    IsSampledRun form bounds from every line lines ⊎ IsRefusalTrace line lines

-- these are the lines of the sampled trace of a line, each with the position of its first cell
abbrev pub IsSampledTrace : Bounds → ℕ → ℕ → List ℕ → List (List ℕ) → Type 0
IsSampledTrace = IsSampledTraceIn WithLow

-- known bytes grow by the first of the lines, maybe by all of them
pub record AppendsFirstLines (old new : Option (List ℕ)) (lines : List (List ℕ)) : Type 0 where
  pub count : ℕ
  pub within : count ≤ length lines
  pub appends : Appends old new (lines_text (take count lines))

-- how a sampled trace ends: without fault all its lines are written; after an allocation failure the first of
-- them; after a failed write a prefix
abbrev pub SampledEnds : Bounds → ℕ → ℕ → List ℕ → Option (List ℕ) → Option (List ℕ) → Result Summary Fault
    → Type 0
SampledEnds bounds from every line held held_then end =
    (lines : List (List ℕ)) × IsSampledTrace bounds from every line lines × MatchEnd end
    (λ summary. Appends held held_then (lines_text lines) × IsTraceSummary bounds line summary)
    (AppendsFirstLines held held_then lines)
    ⊥
    (AppendsPrefix held held_then (lines_text lines))
