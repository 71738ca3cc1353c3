use Rattle.std.proofs.lemmas.Result.{IfOk-weaker}
use Rattle.bb_command.proofs.Facts.{with_arg}
use Rattle.recurrence.proofs.command.program.Goals as goal

pub returns : goal.returns
returns c =
    let one = with_arg c.in_ok-arg.ensures c.base_command.ensures c.steps.ensures.rule c.steps.ensures.local in
    let two = with_arg c.in_ok-arg-2.ensures one c.cells.ensures.rule c.cells.ensures.local in
    let three = with_arg c.in_ok-arg-3.ensures two c.switch.ensures.rule c.switch.ensures.local in
    IfOk-weaker c.arg-4.result _ _
    (λ command adds. with_arg adds three c.positional.ensures.rule c.positional.ensures.local) c.arg-4.ensures
