use Rattle.std.proofs.Common.{refl}
use Rattle.bb_lines.proofs.watched.Watched.fail.Goals as goal

pub returns : goal.returns
returns g c = refl
