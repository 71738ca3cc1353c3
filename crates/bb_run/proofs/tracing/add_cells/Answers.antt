use Rattle.std.proofs.Common.{rules, arith}
use Rattle.std.proofs.lemmas.Result.{err_from_is_err_and}
use Rattle.bb_lines.proofs.Facts.{AppendsPrefix-after}
use Rattle.bb_run.proofs.Traces.{AppendsPrefix-cells, Sends-cell}
use Rattle.bb_run.proofs.tracing.add_cells.Goals as goal

pub returns-in_err-add_byte-clause-err : goal.returns-in_err-add_byte-clause-err
returns-in_err-add_byte-clause-err g c =
    let p = err_from_is_err_and c.from_residual.result c.from_residual.ensures.1 in
    let begun = AppendsPrefix-after c.loop-i.invariant.sent c.in_err-add_byte.ensures.err in
    rw p.1 (AppendsPrefix-cells _ _ _ c.loop-i.i _ (omega arith) begun)

pub loop-i-preserved : goal.loop-i-preserved
loop-i-preserved g c = record {
  unmarked = search rules;
  sent = Sends-cell _ _ c.loop-i.i c.digit.ensures c.loop-i.invariant.sent c.in_ok-add_byte.ensures.sent;
}
