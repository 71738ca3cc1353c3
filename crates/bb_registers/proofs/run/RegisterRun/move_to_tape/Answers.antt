use Rattle.std.proofs.Common.{◌∙◌, ap, sym}
use Rattle.bb_tape.specs.TapeView.{fresh}
use Rattle.bb_registers.proofs.TapeBits.{view_first}
use Rattle.bb_registers.proofs.run.RegisterRun.move_to_tape.Goals as goal

pub move_over-requires-clause-tape : goal.move_over-requires-clause-tape
move_over-requires-clause-tape g c known =
    c.reset.ensures ∙ ap fresh c.requires.limit ∙ sym (view_first known c.start-start.ensures.steps)
