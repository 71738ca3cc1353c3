use Rattle.std.proofs.Common.{◌≡◌, ◌-ℤ◌, w64, of_z, FitsSigned, rules, ◌<◌}
use Rattle.std.proofs.lemmas.Int.{to_z-of_z}
use Rattle.bb_sim.proofs.Standing.{inside_test}
use Rattle.bb_sim.proofs.runner.Runner.is_inside.Goals as goal

pub returns : goal.returns
returns c =
    let runner = c.args.self.now in
    let test = inside_test runner.low c.args.position runner.cells runner.few_cells c.requires.low in
    let position_fits : FitsSigned w64 c.args.position = c.ranges.position in
    let low_fits : FitsSigned w64 runner.low = search rules in
    let difference_fits : FitsSigned w64 (c.args.position -ℤ runner.low) = search rules in
    let value : c.cast_unsigned.result ≡ of_z w64 (c.args.position -ℤ runner.low) =
    simp to_z-of_z at c.cast_unsigned.ensures in (
      λ yes. let below : c.cast_unsigned.result < runner.cells = search rules in test.0 (rw (← value) below),
      λ inside. let below : c.cast_unsigned.result < runner.cells = rw value (test.1 inside) in search rules,
    )
