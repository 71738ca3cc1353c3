-- The program's exit status.
use Rattle.std.specs.Prelude.{◌≡◌, ◌⊎◌, ℕ, Result, Ok, Err}
use Rattle.bb_lines.specs.declared.fault.Fault.{Fault}
use Rattle.bb_cover.specs.declared.found.Found.{Found}
use Rattle.bb_cover.specs.declared.found.Found.TheVariants.{Covers, Stops}
use Rattle.bb_cover.specs.declared.list.Cover.{Cover}
use Rattle.bb_command.specs.Command.{stop_status}
use Rattle.bb_terminal.specs.Status.{IsStopStatus}
use Rattle.cover.specs.declared.command.Refusal.{Refusal}
use Rattle.cover.specs.declared.command.Refusal.TheVariants.{Below, Common, Line}

abbrev pub found_status : Found → ℕ
found_status (Covers states symbols) = 0
found_status (Stops stop) = 1

-- 0 where the list covers its size, 1 where it doesn't, 3 for a fault
abbrev pub end_status : Result Cover Fault → ℕ
end_status (Ok cover) = found_status cover.found
end_status (Err fault) = 3

-- 0 after the lines of a list, 3 for a fault
abbrev pub lines_status : Result (Unit {0}) Fault → ℕ
lines_status (Ok done) = 0
lines_status (Err fault) = 3

-- that of a common stop; 2 where a machine is refused
abbrev pub refusal_status : Refusal → ℕ
refusal_status (Common stop) = stop_status stop
refusal_status (Below refused) = 2
refusal_status (Line refused) = 2

-- that of the result; 3 also where its line can't be written
abbrev pub IsReportStatus : Result Cover Fault → ℕ → Type 0
IsReportStatus (Ok cover) status = (status ≡ found_status cover.found) ⊎ (status ≡ 3)
IsReportStatus (Err fault) status = status ≡ 3

-- that of the refusal; after help or the version also 3, if its text can't be written
abbrev pub IsRefusalStatus : Refusal → ℕ → Type 0
IsRefusalStatus (Common stop) status = IsStopStatus stop status
IsRefusalStatus (Below refused) status = status ≡ 2
IsRefusalStatus (Line refused) status = status ≡ 2
