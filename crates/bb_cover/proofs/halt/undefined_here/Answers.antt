use Rattle.std.proofs.Common.{FitsSigned, w64, rules, ap, ◌∙◌}
use Rattle.std.proofs.lemmas.Int.{to_z-of_z}
use Rattle.bb_tape.specs.Content.{cell}
use Rattle.bb_cover.proofs.Halting.{undefined_of_halt}
use Rattle.bb_cover.proofs.halt.undefined_here.Goals as goal

pub returns : goal.returns
returns g c =
    let fits : FitsSigned w64 c.position.result = search rules in
    let read = simp to_z-of_z at c.read-symbol.ensures in
    undefined_of_halt c.args.machine.now c.args.runner.now (g.T.Tape.view c.args.tape.now)
    c.requires.stands c.requires.halts (record { state = c.in_ok-state.state; symbol = c.read-symbol.result })
    c.in_ok-state.ensures
    (read ∙ ap (cell (g.T.Tape.view c.args.tape.now).content) c.position.ensures)
