use Rattle.std.proofs.Common.{◌∙◌, arith}
use Rattle.bb_sim.proofs.Facts.{counts_next, wide_at_end}
use Rattle.bb_cert.specs.declared.checker.answer.Answer.TheVariants as answer
use Rattle.bb_cert.proofs.checker_lemmas.ClaimChecks.{cut_answers}
use Rattle.bb_cert.proofs.record_lemmas.UnderWay.{counts_whole, cut_by_halt}
use Rattle.bb_cert.proofs.checker.run.RunnerSteps.advance.Goals as goal

pub returns-in-Stepped-clause-progress : goal.returns-in-Stepped-clause-progress
returns-in-Stepped-clause-progress g c =
    let here = c.requires.under_way in
    let moves = rw c.in-Stepped.is at c.in_ok-advance.ensures.moves in
    let reaches = rw c.in-Stepped.is at c.in_ok-advance.ensures.reaches in (
      record {
        stands = c.in_ok-advance.ensures.stands;
        inside = reaches.0;
        limit = c.in_ok-advance.ensures.limit ∙ here.limit;
        counts = rw moves.0 (counts_next _ _ _ here.counts moves.1);
      },
      moves.0,
    )

pub returns-in-Halted-clause-progress : goal.returns-in-Halted-clause-progress
returns-in-Halted-clause-progress g c =
    let call = c.in_ok-advance.ensures in
    record {
      answers = cut_answers c.args.machine.now c.args.limits.now answer.Bad
          (cut_by_halt c.requires.under_way.inside (rw c.in-Halted.is at call.answers) c.requires.ahead);
      counted =
          counts_whole c.requires.under_way (rw c.in-Halted.is at call.reaches) (rw c.in-Halted.is at call.moves);
    }

pub returns-in-NoSteps-clause-progress : goal.returns-in-NoSteps-clause-progress
returns-in-NoSteps-clause-progress g c =
    let answers = rw c.in-NoSteps.is at c.in_ok-advance.ensures.answers in
    absurd (omega (arith, answers.1, c.requires.ahead))

pub returns-in-NoCells-clause-progress : goal.returns-in-NoCells-clause-progress
returns-in-NoCells-clause-progress g c =
    let call = c.in_ok-advance.ensures in
    let answers = rw c.in-NoCells.is at call.answers in
    record {
      answers = cut_answers c.args.machine.now c.args.limits.now answer.Over
          (wide_at_end _ _ _ c.requires.under_way.inside answers.2 answers.1);
      counted =
          counts_whole c.requires.under_way (rw c.in-NoCells.is at call.reaches) (rw c.in-NoCells.is at call.moves);
    }
