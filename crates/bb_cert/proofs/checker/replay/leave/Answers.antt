use Rattle.std.proofs.Common.{◌∙◌, arith}
use Rattle.bb_sim.proofs.Facts.{inside_here}
use Rattle.bb_registers.proofs.Facts.{counted_so_far}
use Rattle.bb_cert.specs.inside.Checks.{IsUnderWay}
use Rattle.bb_cert.proofs.record_lemmas.UnderWay.{under_way_within}
use Rattle.bb_cert.proofs.checker.replay.leave.Given as given
use Rattle.bb_cert.proofs.checker.replay.leave.Goals as goal

moved : (g : given.Over) (c : goal.After-count g)
    → IsUnderWay c.args.machine.now c.args.limits.now c.in_ok-runner.runner (g.T.Tape.view c.move_over.new.tape)
    c.count.new.meter
moved g c =
    let here = c.requires.run.run in
    let known = here.is_run in
    let made = c.in_ok-runner.ensures in
    record {
      stands = made.stands;
      inside = inside_here _ _ _ c.args.limits.now made.stands (g.met.T.Tape.sound c.move_over.new.tape)
          (c.move_over.ensures.limit ∙ c.move_to_tape.ensures.limit ∙ c.requires.tapes.run)
          (omega (arith, made.steps, known.few));
      limit = c.move_over.ensures.limit ∙ c.move_to_tape.ensures.limit ∙ c.requires.tapes.run;
      counts = counted_so_far known _ _ (made.steps ∙ known.steps_is)
          (rw here.uncounted at c.count.ensures);
    }

pub returns-clause-under_way : goal.returns-clause-under_way
returns-clause-under_way g c = moved g c

pub returns-clause-within : goal.returns-clause-within
returns-clause-within g c = under_way_within (moved g c)
