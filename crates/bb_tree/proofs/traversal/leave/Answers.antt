use Rattle.std.proofs.Common.{FitsSigned, w64, rules}
use Rattle.std.proofs.lemmas.Int.{to_z-of_z}
use Rattle.bb_tree.proofs.traversal.leave.Goals as goal

pub returns-in-Ok-clause-left : goal.returns-in-Ok-clause-left
returns-in-Ok-clause-left g c =
    let fits : FitsSigned w64 c.args.frame.position = search rules in
    simp to_z-of_z at c.in-Ok.ensures.ok
