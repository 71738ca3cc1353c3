use Rattle.std.proofs.lemmas.Result.{IfOk-weaker}
use Rattle.std.proofs.Common.{codes}
use Rattle.clap.specs.Words.{AddsArg}
use Rattle.clap.specs.Simple.{new_shape}
use Rattle.clap.specs.declared.builder.command.Command.{Command}
use Rattle.bb_command.specs.CommandLine.{decide_shape}
use Rattle.bb_command.proofs.CommandShapes.{IsLocal, with_arg}
use Rattle.bb_command.proofs.command.decide_command.Goals as goal

-- what the last argument leaves
has_shape : (c : goal.After-arg-8) (command : Command)
    → AddsArg c.in_ok-arg-7.field-0 c.positional-file.result command → IsLocal command decide_shape
has_shape c command adds =
    let s0 : IsLocal c.command.result (new_shape (codes "decide")) =
    record { is_shape = c.command.ensures.shape; no_globals = c.command.ensures.local } in
    let s1 = with_arg c.in_ok-arg.ensures s0 c.steps.ensures.rule c.steps.ensures.local in
    let s2 = with_arg c.in_ok-arg-2.ensures s1 c.cells.ensures.rule c.cells.ensures.local in
    let s3 = with_arg c.in_ok-arg-3.ensures s2 c.depth.ensures.rule c.depth.ensures.local in
    let s4 = with_arg c.in_ok-arg-4.ensures s3 c.nodes.ensures.rule c.nodes.ensures.local in
    let s5 = with_arg c.in_ok-arg-5.ensures s4 c.switch.ensures.rule c.switch.ensures.local in
    let s6 = with_arg c.in_ok-arg-6.ensures s5 c.switch-2.ensures.rule c.switch-2.ensures.local in
    let s7 = with_arg c.in_ok-arg-7.ensures s6 c.switch-3.ensures.rule c.switch-3.ensures.local in
    with_arg adds s7 c.positional-file.ensures.rule c.positional-file.ensures.local

pub returns-clause-shape : goal.returns-clause-shape
returns-clause-shape c = IfOk-weaker c.arg-8.result _ _ (λ command adds. (has_shape c command adds).is_shape)
    c.arg-8.ensures

pub returns-clause-local : goal.returns-clause-local
returns-clause-local c = IfOk-weaker c.arg-8.result _ _
    (λ command adds. (has_shape c command adds).no_globals) c.arg-8.ensures
