use Rattle.std.proofs.Common.{length, ap, ◌∙◌, arith}
use Rattle.bb_cover.specs.declared.walk.Frame.{Frame}
use Rattle.std.proofs.Common.{List}
use Rattle.bb_cover.proofs.Lefts.{left_nothing}
use Rattle.bb_cover.proofs.Tables.{machine_few_undefined_entries}
use Rattle.bb_cover.proofs.walk.Walk.begin.Goals as goal

pub go_on-requires-clause-room : goal.go_on-requires-clause-room
go_on-requires-clause-room c =
    let none = ap (λ (frames : List Frame). length frames) (left_nothing 0 c.self.inside.frames.items
    c.self.invariant.0 (c.self.view_is ∙ c.requires.done)) in
    omega (arith, machine_few_undefined_entries c.args.machine.now c.show_machine.ensures.machine, none)
