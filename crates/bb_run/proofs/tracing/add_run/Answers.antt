use Rattle.std.proofs.Common.{◌∙◌, arith, refl, rules}
use Rattle.std.proofs.lemmas.Result.{err_from_is_err_and}
use Rattle.bb_sim.proofs.Facts.{inside_here}
use Rattle.bb_lines.proofs.Facts.{Appends-after, AppendsPrefix-after}
use Rattle.bb_run.proofs.TraceEnds.{printed_all, printed_begun, printed_begun_next, printed_early}
use Rattle.bb_run.proofs.TraceEnds.{printed_next, printed_none}
use Rattle.bb_run.proofs.tracing.add_run.Goals as goal

pub loop-runner-init : goal.loop-runner-init
loop-runner-init g c =
    let start = c.start-runner.ensures in
    let limit = start.limit ∙ c.requires.tape in
    let steps = start.steps in
    record {
      stands = start.stands;
      limit = limit;
      inside =
          inside_here _ _ _ _ start.stands (g.met.T.Tape.sound c.start-runner.new.tape) limit
          (omega (arith, steps));
      unmarked = c.requires.writer;
      printed = printed_none _ _ _ _ _ _ steps c.requires.waiting;
    }

pub returns-in_err-add_step-in-Ok-Whole-clause-ends : goal.returns-in_err-add_step-in-Ok-Whole-clause-ends
returns-in_err-add_step-in-Ok-Whole-clause-ends g c = λ last count is_last size.
    let ran = rw c.in-Ok-Whole.field-0-is at c.in-Ok-Whole.ensures.ran in
    let p = err_from_is_err_and c.from_residual.result c.from_residual.ensures.1 in
    let begun =
    printed_begun_next _ _ _ _ c.loop-runner.invariant.printed ran.1 ran.0 is_last size
    c.in_err-add_step-in-Ok-Whole.ensures.err in
    rw (p.1, p.2, c.in_err-add_step-in-Ok-Whole.ensures.only_write) begun

pub returns-in-Ok-Ended-clause-ends : goal.returns-in-Ok-Ended-clause-ends
returns-in-Ok-Ended-clause-ends g c = λ last count is_last size.
    let ran = rw c.in-Ok-Ended.field-0-is at c.in-Ok-Ended.ensures.ran in (
      printed_all _ _ _ _ c.loop-runner.invariant.printed ran.0 refl is_last size,
      (λ _. ran.1, λ _. refl),
    )

pub returns-in-Ok-Cut-clause-ends : goal.returns-in-Ok-Cut-clause-ends
returns-in-Ok-Cut-clause-ends g c = λ last count is_last size.
    let ran = rw c.in-Ok-Cut.field-0-is at c.in-Ok-Cut.ensures.ran in
    let over = ran.1 in (
      printed_all _ _ _ _ c.loop-runner.invariant.printed ran.0 refl is_last size,
      (λ wrong. cc, λ fits. absurd (omega (arith, over, fits))),
    )

pub returns-in_err-write_waiting-in-Err-clause-ends : goal.returns-in_err-write_waiting-in-Err-clause-ends
returns-in_err-write_waiting-in-Err-clause-ends g c = λ last count is_last size.
    let here = c.loop-runner.invariant in
    let p = err_from_is_err_and c.from_residual-in_err-write_waiting-in-Err.result
    c.from_residual-in_err-write_waiting-in-Err.ensures.1 in
    let begun =
    printed_begun _ _ _ _ here.printed here.inside is_last size
    (AppendsPrefix-after here.printed.sent c.in_err-write_waiting-in-Err.ensures.err) in
    rw (p.1, p.2, c.in_err-write_waiting-in-Err.ensures.only_write) begun

pub returns-in-Err-clause-ends : goal.returns-in-Err-clause-ends
returns-in-Err-clause-ends g c = λ last count is_last size.
    let here = c.loop-runner.invariant in
    printed_early _ _ _ _ here.printed c.in-Err.ensures.wanted refl is_last
    (Appends-after here.printed.sent _ c.in_ok-write_waiting-in-Err.ensures.ok)

pub loop-runner-preserved : goal.loop-runner-preserved
loop-runner-preserved g c =
    let here = c.loop-runner.invariant in
    let call = c.in-Ok-Whole.ensures in
    let ran = rw c.in-Ok-Whole.field-0-is at call.ran in
    record {
      stands = call.stands;
      limit = call.limit ∙ here.limit;
      inside = ran.0;
      unmarked = search rules;
      printed =
          printed_next _ _ _ _ here.printed ran.1 (omega (arith, ran.1))
          c.in_ok-add_step-in-Ok-Whole.ensures.sent;
    }
