use Rattle.std.proofs.Common.{◌<◌, arith}
use Rattle.std.proofs.lemmas.Result.{err_from_is_err_and}
use Rattle.bb_machine.specs.Machine.{IsTextOf}
use Rattle.bb_run.proofs.SampledRuns.{size_exists}
use Rattle.bb_run.proofs.TraceSummaries.{added_run, added_refusal, failed_refusal}
use Rattle.bb_run.proofs.tracing.add_trace.Goals as goal

pub returns-in-Ok-clause-ends : goal.returns-in-Ok-clause-ends
returns-in-Ok-clause-ends g c =
    let some : 0 < c.args.limits.now.cells = omega (arith, c.show_accepted.ensures.accepted.some_cell) in
    let last = c.last_step_exists.ensures c.in-Ok.machine c.args.limits.now some in
    let of : IsTextOf c.in-Ok.machine c.args.line.now =
    record { machine = c.in-Ok.ensures.found.0; is_text = c.in-Ok.ensures.found.1 } in
    let size = size_exists c.args.from c.args.every last.0 c.requires.every in
    added_run c.texts_differ.ensures of last.1 size.1 _ _ _ _
    (c.add_run.ensures.ends last.0 size.0 last.1 size.1)

pub returns-in_err-add_refusal-in-Err-clause-ends : goal.returns-in_err-add_refusal-in-Err-clause-ends
returns-in_err-add_refusal-in-Err-clause-ends g c =
    let p = err_from_is_err_and c.from_residual.result c.from_residual.ensures.1 in
    let begun = rw c.requires.waiting at c.in_err-add_refusal-in-Err.ensures.err in
    rw (p.1, p.2, c.in_err-add_refusal-in-Err.ensures.only_write)
    (failed_refusal (λ m. let found = c.in-Err.ensures.only m.0 m.1.machine m.1.is_text in cc)
    c.in-Err.ensures.column c.add_refusal.new.waiting.items begun)

pub returns-in_ok-add_refusal-in-Err-clause-ends : goal.returns-in_ok-add_refusal-in-Err-clause-ends
returns-in_ok-add_refusal-in-Err-clause-ends g c =
    let sent = rw c.requires.waiting at c.in_ok-add_refusal-in-Err.ensures.sent in
    added_refusal (λ m. let found = c.in-Err.ensures.only m.0 m.1.machine m.1.is_text in cc)
    c.in-Err.ensures.column sent
