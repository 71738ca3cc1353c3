-- The program's exit status.
use Rattle.std.specs.Prelude.{ℕ, Result, Ok, Err, if◌then◌else◌}
use Rattle.bb_lines.specs.declared.fault.Fault.{Fault}
use Rattle.bb_run.specs.declared.summary.Summary.{Summary}

-- 0 if every reply is a recurrence or `open`, 1 if another is among them, 3 for a fault
abbrev pub end_status : Result Summary Fault → ℕ
end_status (Ok summary) = if summary.clean then 0 else 1
end_status (Err fault) = 3
