use Rattle.std.proofs.Common.{sym, ◌∙◌}
use Rattle.laws_of_verdicts.proofs.Facts.{machine-with_entry}
use Rattle.bb_cover.proofs.Texts.{named_few}
use Rattle.bb_cover.proofs.filled.filled.Goals as goal

pub unreachable-requires : goal.unreachable-requires
unreachable-requires c =
    let machine = c.show_machine.ensures.machine in
    let made = machine-with_entry c.args.machine.now machine c.args.undefined.state c.args.undefined.symbol
    c.args.entry c.requires.state c.requires.named in
    let text = c.filled_text.ensures (named_few _ _ machine.states machine.symbols c.args.entry c.requires.named) in
    let read = c.read.ensures.only _ made (sym (c.as_slice.ensures.value ∙ text)) in
    let is = c.in-Err.is in
    cc

pub returns : goal.returns
returns c =
    let machine = c.show_machine.ensures.machine in
    let made = machine-with_entry c.args.machine.now machine c.args.undefined.state c.args.undefined.symbol
    c.args.entry c.requires.state c.requires.named in
    let text = c.filled_text.ensures (named_few _ _ machine.states machine.symbols c.args.entry c.requires.named) in
    let read = c.read.ensures.only _ made (sym (c.as_slice.ensures.value ∙ text)) in
    let is = c.in-Ok.is in
    cc
