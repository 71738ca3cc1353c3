use Rattle.std.proofs.Common.{rules}
use Rattle.bb_lines.proofs.Facts.{AppendsPrefix-after, Sends-trans}
use Rattle.cover.proofs.SentLines.{begins, on_err, whole_after}
use Rattle.cover.proofs.report.write_line.Goals as goal

pub returns-in-Err-clause-err : goal.returns-in-Err-clause-err
returns-in-Err-clause-err g c =
    let sent = c.loop-rest.invariant.sent in
    begins sent (AppendsPrefix-after sent.sends c.in-Err.ensures.err)

pub loop-rest-preserved : goal.loop-rest-preserved
loop-rest-preserved g c =
    let sent = c.loop-rest.invariant.sent in
    record {
      unmarked = search rules;
      sent = record {
        past = _;
        whole = rw (c.split_at.ensures.front, c.split_at.ensures.back) (whole_after sent.past c.loop-rest.rest.now _ _ sent.whole);
        sends = Sends-trans sent.sends c.in-Ok.ensures.sent;
      };
    }

pub returns-clause-err : goal.returns-clause-err
returns-clause-err g c =
    let sent = c.loop-rest.invariant.sent in
    on_err c.write_and_flush.result c.write_and_flush.ensures.err
    (λ begun. begins sent (AppendsPrefix-after sent.sends begun))
