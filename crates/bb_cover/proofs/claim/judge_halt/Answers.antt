use Rattle.std.proofs.Common.{refl}
use Rattle.bb_cover.proofs.Judging.{halt_is_ok, not_there, to_fill}
use Rattle.bb_cert.specs.declared.checker.answer.Answer.TheVariants.{Ok}
use Rattle.bb_cover.proofs.claim.judge_halt.Goals as goal

pub returns-clause-judged : goal.returns-clause-judged
returns-clause-judged g c =
    let ends = rw c.in-Some.is at c.in_ok-halted.ensures.ends in (
      record {
        given = Ok;
        is_answer = halt_is_ok c.args.machine.now c.args.limits.now c.args.steps c.args.score
            c.in-Some.halted ends c.if-halted-score.false;
        fine = refl;
      },
      to_fill c.args.machine.now c.args.steps c.args.score c.in-Some.halted.undefined c.undefined_to_fill.result ends.on
          c.undefined_to_fill.ensures,
    )

pub refuse_halt-requires-clause-not_so : goal.refuse_halt-requires-clause-not_so
refuse_halt-requires-clause-not_so g c =
    not_there c.args.machine.now c.args.limits.now c.args.steps c.args.score
    (rw c.in_default.is at c.in_ok-halted.ensures.ends)
