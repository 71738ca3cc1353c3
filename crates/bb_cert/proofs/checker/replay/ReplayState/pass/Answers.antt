use Rattle.std.proofs.Common.{FitsSigned, w64, rules}
use Rattle.std.proofs.lemmas.Int.{to_z-of_z}
use Rattle.bb_cert.proofs.checker.replay.ReplayState.pass.Goals as goal

pub returns : goal.returns
returns c =
    let fits : FitsSigned w64 c.position.result = search rules in
    record {
      records = rw c.position.ensures at (simp to_z-of_z at c.pass.ensures);
      claimed = c.widened_side.result;
      widens = c.widened_side.ensures;
      is_claimed = search rules;
    }
