use Rattle.std.proofs.Common.{refl}
use Rattle.bb_tree.proofs.path.Path.new.Goals as goal

pub returns-in-Ok : goal.returns-in-Ok
returns-in-Ok c = refl
