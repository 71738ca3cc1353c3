use Rattle.std.proofs.Common.{◌∙◌}
use Rattle.std.proofs.lemmas.Result.{err_from_is_err_and, on_err_weaker, on_ok_weaker}
use Rattle.bb_lines.proofs.Facts.{AppendsPrefix-more}
use Rattle.bb_run.proofs.Traces.{line_text-is, AppendsPrefix-line, AppendsPrefix-end, Sends-line}
use Rattle.bb_run.proofs.tracing.add_step.Goals as goal

pub returns-in_err-add-clause-err : goal.returns-in_err-add-clause-err
returns-in_err-add-clause-err g c =
    let p = err_from_is_err_and c.from_residual.result c.from_residual.ensures.1 in
    rw p.1 (AppendsPrefix-more _ c.in_err-add.ensures.err)

pub returns-in_err-add_cells-clause-err : goal.returns-in_err-add_cells-clause-err
returns-in_err-add_cells-clause-err g c =
    let p = err_from_is_err_and c.from_residual-in_err-add_cells.result
    c.from_residual-in_err-add_cells.ensures.1 in
    let parts = line_text-is c.args.form c.requires.stands (c.as_slice.ensures.value ∙ c.front_of.ensures.text) in
    rw p.1 (AppendsPrefix-line parts c.in_ok-add.ensures.sent c.in_err-add_cells.ensures.err)

pub returns-clause-sent : goal.returns-clause-sent
returns-clause-sent g c =
    let parts = line_text-is c.args.form c.requires.stands (c.as_slice.ensures.value ∙ c.front_of.ensures.text) in
    on_ok_weaker c.add-2.result
    (Sends-line parts c.in_ok-add.ensures.sent c.in_ok-add_cells.ensures.sent)
    c.add-2.ensures.sent

pub returns-clause-err : goal.returns-clause-err
returns-clause-err g c =
    let parts = line_text-is c.args.form c.requires.stands (c.as_slice.ensures.value ∙ c.front_of.ensures.text) in
    on_err_weaker c.add-2.result
    (AppendsPrefix-end parts c.in_ok-add.ensures.sent c.in_ok-add_cells.ensures.sent)
    c.add-2.ensures.err
