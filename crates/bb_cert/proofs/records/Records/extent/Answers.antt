use Rattle.std.proofs.Common.{FitsSigned, w64, rules}
use Rattle.std.proofs.lemmas.Int.{to_z-of_z}
use Rattle.bb_sim.specs.Runner.{position_of}
use Rattle.bb_cert.proofs.record_lemmas.Stretches.{length_is}
use Rattle.bb_cert.proofs.records.Records.extent.Goals as goal

pub returns : goal.returns
returns c =
    let nearest_fits : FitsSigned w64 c.args.self.now.nearest = search rules in
    let kept_fits : FitsSigned w64 c.position-3.result = search rules in
    let nearest_is = to_z-of_z w64 c.args.self.now.nearest nearest_fits in
    let kept_is = to_z-of_z w64 c.position-3.result kept_fits in
    let is = length_is c.args.self.now.side c.args.self.now.nearest (position_of c.args.self.now.kept)
    c.requires.order in
    record { shift = search rules; length = cc }
