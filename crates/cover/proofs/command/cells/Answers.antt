use Rattle.std.proofs.Common.{refl}
use Rattle.std.specs.Fmt.{digits}
use Rattle.cover.proofs.command.cells.Goals as goal

-- the digits of the bound, worked out
pub returns-clause-help : goal.returns-clause-help
unfolding digits
returns-clause-help c = rw c.limit.ensures.help refl
