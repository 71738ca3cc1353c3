-- The reasons for reading no arguments: this project's own.
use Rattle.std.specs.Prelude.{◌≡◌, ◌++◌, ◌∷◌, [], codes}
use Rattle.std.specs.String.{string_bytes}
use Rattle.bb_command.specs.declared.command.Stop.{Stop}
use Rattle.bb_command.specs.declared.command.Stop.TheVariants.{Help, Words, Limits, Memory}

-- one of them isn't UTF-8, with a line that says so, or an allocation failed
abbrev pub IsUnread : Stop → Type 0
IsUnread (Words text) = string_bytes text ≡ codes "error: an argument is not UTF-8" ++ 10 ∷ []
IsUnread Memory = Unit {0}
IsUnread (Help text) = ⊥
IsUnread (Limits fault) = ⊥
