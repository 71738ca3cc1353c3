use Rattle.std.proofs.lemmas.Result.{IfOk-weaker}
use Rattle.bb_command.proofs.Facts.{with_arg}
use Rattle.cover.proofs.command.program.Goals as goal

pub returns : goal.returns
returns c =
    let one = with_arg c.in_ok-arg.ensures c.base_command.ensures c.limit.ensures.rule c.limit.ensures.local in
    let two = with_arg c.in_ok-arg-2.ensures one c.cells.ensures.rule c.cells.ensures.local in
    let three = with_arg c.in_ok-arg-3.ensures two c.limit-2.ensures.rule c.limit-2.ensures.local in
    let four = with_arg c.in_ok-arg-4.ensures three c.limit-3.ensures.rule c.limit-3.ensures.local in
    let five = with_arg c.in_ok-arg-5.ensures four c.text.ensures.rule c.text.ensures.local in
    let six = with_arg c.in_ok-arg-6.ensures five c.switch.ensures.rule c.switch.ensures.local in
    let seven = with_arg c.in_ok-arg-7.ensures six c.text-2.ensures.rule c.text-2.ensures.local in
    let eight = with_arg c.in_ok-arg-8.ensures seven c.text-3.ensures.rule c.text-3.ensures.local in
    let nine = with_arg c.in_ok-arg-9.ensures eight c.switch-2.ensures.rule c.switch-2.ensures.local in
    IfOk-weaker c.arg-10.result _ _
    (λ command adds. with_arg adds nine c.positional.ensures.rule c.positional.ensures.local) c.arg-10.ensures
