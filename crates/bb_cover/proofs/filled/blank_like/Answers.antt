use Rattle.std.proofs.Common.{sym, ◌∙◌}
use Rattle.laws_of_verdicts.proofs.Facts.{blank_machine}
use Rattle.bb_cover.proofs.filled.blank_like.Goals as goal

pub unreachable-requires : goal.unreachable-requires
unreachable-requires c =
    let read = c.read.ensures.only _ (blank_machine c.args.machine.now c.show_machine.ensures.machine)
    (sym (c.as_slice.ensures.value ∙ c.blank_text.ensures)) in
    let is = c.in-Err.is in
    cc

pub returns : goal.returns
returns c =
    let read = c.read.ensures.only _ (blank_machine c.args.machine.now c.show_machine.ensures.machine)
    (sym (c.as_slice.ensures.value ∙ c.blank_text.ensures)) in
    let is = c.in-Ok.is in
    cc
