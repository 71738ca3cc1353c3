use Rattle.std.proofs.Common.{FitsSigned, w64, refl, rules}
use Rattle.std.proofs.lemmas.Int.{to_z-of_z}
use Rattle.bb_cert.proofs.records.Records.keep_record.Goals as goal

pub returns : goal.returns
returns c =
    let fits : FitsSigned w64 c.position-self.result = search rules in
    simp to_z-of_z (rw c.position-self.ensures refl)
