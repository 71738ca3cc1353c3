use Rattle.std.proofs.Common.{◌≡◌, ◌+◌, ◌-◌, ◌*◌, ◌∙◌, ap, sym, length, arith}
use Rattle.bb_machine.specs.Machine.{text}
use Rattle.bb_recurrence.proofs.ReplyLengths.{text_length}
use Rattle.bb_recurrence.proofs.Writing.{text_of_line}
use Rattle.bb_recurrence.proofs.text.machine_text.Goals as goal

pub slice_bounds-result-length : goal.slice_bounds-result-length
slice_bounds-result-length c =
    let is = text_length c.args.machine.now c.show_machine.ensures.machine in
    let here : c.states.result * (3 * c.symbols.result + 1) - 1 ≡ length (text c.args.machine.now) =
    rw (c.states.ensures.value, c.symbols.ensures.value) (omega (arith, is)) in
    here ∙ sym (ap length (text_of_line _ _ _ c.requires.line here))

pub returns-clause-text : goal.returns-clause-text
returns-clause-text c =
    let is = text_length c.args.machine.now c.show_machine.ensures.machine in
    text_of_line _ _ _ c.requires.line (rw (c.states.ensures.value, c.symbols.ensures.value) (omega (arith, is)))
