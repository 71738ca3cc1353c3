-- The lines that are counted during a work: this project's own.
use Rattle.std.specs.Prelude.{Bool, true, false, Option, Some, None}
use Rattle.bb_command.specs.declared.command.Work.{Work}
use Rattle.bb_command.specs.declared.command.Work.TheVariants.{Decide, Check, Trace}

-- whether they are claims, else machines; a trace has none
abbrev pub counts_claims : Work → Option Bool
counts_claims (Decide plan) = Some false
counts_claims Check = Some true
counts_claims (Trace text) = None
