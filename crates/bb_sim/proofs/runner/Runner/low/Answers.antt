use Rattle.std.proofs.Common.{rules, w64, FitsSigned}
use Rattle.std.proofs.lemmas.Int.{to_z-of_z}
use Rattle.bb_sim.proofs.runner.Runner.low.Goals as goal

pub returns : goal.returns
returns c = let fits : FitsSigned w64 c.args.self.now.low = search rules in simp to_z-of_z
