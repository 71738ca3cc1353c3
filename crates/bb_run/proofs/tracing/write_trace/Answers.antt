use Rattle.std.proofs.lemmas.Result.{err_from_is_err_and}
use Rattle.bb_lines.proofs.Facts.{AppendsPrefix-after, Appends-after}
use Rattle.bb_run.proofs.tracing.write_trace.Goals as goal

pub returns-in_err-write_and_flush-clause-ends : goal.returns-in_err-write_and_flush-clause-ends
returns-in_err-write_and_flush-clause-ends g c =
    let p = err_from_is_err_and c.from_residual-in_err-write_and_flush.result
    c.from_residual-in_err-write_and_flush.ensures.1 in
    let ends = c.in_ok-clean.ensures.ends in (
      ends.0,
      ends.1,
      rw (p.1, p.2, c.in_err-write_and_flush.ensures.only_write)
          (AppendsPrefix-after ends.2.0 c.in_err-write_and_flush.ensures.err),
    )

pub returns-clause-ends : goal.returns-clause-ends
returns-clause-ends g c =
    let ends = c.in_ok-clean.ensures.ends in (
      ends.0,
      ends.1,
      (
        Appends-after ends.2.0 _ c.in_ok-write_and_flush.ensures.ok,
        record { clean = ends.2.1; peak = c.new.ensures },
      ),
    )
