use Rattle.std.proofs.lemmas.Result.{IfOk-weaker}
use Rattle.std.proofs.Common.{codes, ap}
use Rattle.clap.specs.Words.{AddsArg}
use Rattle.clap.specs.Simple.{new_shape}
use Rattle.clap.specs.declared.builder.command.Command.{Command}
use Rattle.bb_command.specs.CommandLine.{must, trace_shape}
use Rattle.bb_command.proofs.CommandShapes.{IsLocal, with_arg}
use Rattle.bb_command.proofs.command.trace_command.Goals as goal

-- what the last argument leaves
has_shape : (c : goal.After-arg-3) (command : Command)
    → AddsArg c.in_ok-arg-2.field-0 c.required-machine.result command → IsLocal command trace_shape
has_shape c command adds =
    let s0 : IsLocal c.command.result (new_shape (codes "trace")) =
    record { is_shape = c.command.ensures.shape; no_globals = c.command.ensures.local } in
    let s1 = with_arg c.in_ok-arg.ensures s0 (rw c.required-upto.ensures (ap must c.number.ensures.rule))
    (rw c.required-upto.ensures c.number.ensures.local) in
    let s2 = with_arg c.in_ok-arg-2.ensures s1 c.cells.ensures.rule c.cells.ensures.local in
    with_arg adds s2 (rw c.required-machine.ensures (ap must c.positional.ensures.rule))
    (rw c.required-machine.ensures c.positional.ensures.local)

pub returns-clause-shape : goal.returns-clause-shape
returns-clause-shape c = IfOk-weaker c.arg-3.result _ _ (λ command adds. (has_shape c command adds).is_shape)
    c.arg-3.ensures

pub returns-clause-local : goal.returns-clause-local
returns-clause-local c = IfOk-weaker c.arg-3.result _ _
    (λ command adds. (has_shape c command adds).no_globals) c.arg-3.ensures
