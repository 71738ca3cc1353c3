use Rattle.std.proofs.Common.{ap, ◌∙◌, map}
use Rattle.std.proofs.lemmas.List.{take_all}
use Rattle.bb_cover.proofs.Texts.{dash, dashes_are_blank}
use Rattle.bb_cover.proofs.text.blank_text.Goals as goal

pub returns : goal.returns
returns c =
    let is = c.as_slice-byte-items.ensures.value ∙ c.text_of-own.ensures in
    c.loop-byte.invariant
    ∙ ap (map dash) (take_all c.loop-byte.byte-index c.as_slice-byte-items.result.now c.loop-byte-test.false ∙ is)
    ∙ dashes_are_blank c.args.machine.now c.show_machine.ensures.machine
