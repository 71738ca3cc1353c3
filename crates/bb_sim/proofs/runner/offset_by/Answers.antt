use Rattle.std.proofs.Common.{refl, rules, w8, w64, FitsSigned, ◌+ℤ◌}
use Rattle.std.proofs.lemmas.Int.{to_z-of_z}
use Rattle.bb_sim.proofs.runner.offset_by.Goals as goal

pub returns : goal.returns
returns c =
    let position_fits : FitsSigned w64 c.args.position = c.ranges.position in
    let offset_fits : FitsSigned w8 c.args.offset = c.ranges.offset in
    let same = simp to_z-of_z at c.from.ensures in
    let from_fits : FitsSigned w64 c.from.result = search rules in
    let sum_fits : FitsSigned w64 (c.args.position +ℤ c.from.result) = search rules in
    simp to_z-of_z (rw same refl)
