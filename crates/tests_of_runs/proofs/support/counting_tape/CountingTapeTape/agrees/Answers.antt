use Rattle.std.proofs.Common.{w64, rules, FitsSigned}
use Rattle.std.proofs.lemmas.Int.{to_z-of_z}
use Rattle.tests_of_runs.proofs.support.counting_tape.CountingTapeTape.agrees.Goals as goal

pub returns : goal.returns
returns g c =
    let from_fits : FitsSigned w64 c.before.args.from = search rules in
    let other_fits : FitsSigned w64 c.before.args.other_from = search rules in
    simp to_z-of_z at c.agrees.ensures
