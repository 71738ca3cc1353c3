-- The exit status after a stop: this project's own.
use Rattle.std.specs.Prelude.{◌≡◌, ◌⊎◌, ℕ}
use Rattle.bb_command.specs.declared.command.Stop.{Stop}
use Rattle.bb_command.specs.declared.command.Stop.TheVariants.{Help, Words, Limits, Memory}
use Rattle.bb_command.specs.Command.{stop_status}

-- that of the stop; after help or the version also 3, if its text can't be written
abbrev pub IsStopStatus : Stop → ℕ → Type 0
IsStopStatus (Help text) status = (status ≡ stop_status (Help text)) ⊎ (status ≡ 3)
IsStopStatus stop status = status ≡ stop_status stop
