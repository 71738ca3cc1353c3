use Rattle.std.proofs.Common.{FitsSigned, refl, rules, w64}
use Rattle.std.proofs.lemmas.Int.{to_z-of_z}
use Rattle.bb_cert.proofs.checker.run.RunnerSteps.symbol.Goals as goal

pub returns-then-wanted : goal.returns-then-wanted
returns-then-wanted g c table bounds meter here wanted =
    let fits : FitsSigned w64 c.position.result = search rules in
    record {
      runner = _;
      view = _;
      stands = here.stands;
      at = refl;
      reads = rw c.position.ensures at (simp to_z-of_z at c.read.ensures);
    }
