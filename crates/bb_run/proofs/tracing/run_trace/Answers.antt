use Rattle.bb_run.proofs.TraceSummaries.{trace_ends}
use Rattle.bb_run.proofs.tracing.run_trace.Goals as goal

pub returns-clause-ends : goal.returns-clause-ends
returns-clause-ends g c = trace_ends _ _ _ c.write_trace.ensures.ends
