-- The result of a call for a trace: this project's own.
use Rattle.std.specs.Prelude.{◌≡◌, ℕ, List}
use Rattle.bb_machine.specs.Limits.{Bounds}
use Rattle.bb_run.specs.Sample.{IsSampledTrace}
use Rattle.bb_run.specs.Trace.{lines_text}

-- the bytes are the lines of the sampled trace of a line, each with a newline
pub record IsSampledText (bounds : Bounds) (from every : ℕ) (line bytes : List ℕ) : Type 0 where
  pub lines : List (List ℕ)
  pub is_trace : IsSampledTrace bounds from every line lines
  pub are_bytes : bytes ≡ lines_text lines
