use Rattle.std.proofs.Common.{◌-◌, ◌∙◌, ap}
use Rattle.bb_sim.specs.Meter.{CountsTo, counted, zero_meter}
use Rattle.bb_sim.specs.Runner.{steps_of}
use Rattle.bb_sim.proofs.Facts.{count_is_within}
use Rattle.bb_registers.specs.Registers.{EndsWith}
use Rattle.bb_registers.proofs.Facts.{counted_at_end}
use Rattle.bb_cert.proofs.checker_lemmas.InRegisters.{answered}
use Rattle.bb_cert.proofs.checker.run.RunWithTableSteps.advance.Given as given
use Rattle.bb_cert.proofs.checker.run.RunWithTableSteps.advance.Goals as goal
use Rattle.bb_cert.proofs.checker.run.RunWithTableSteps.advance.Goals.{After-count}

pub returns-in-Stepped-clause-progress : goal.returns-in-Stepped-clause-progress
returns-in-Stepped-clause-progress g c =
    let here = c.requires.under_way in
    let made = c.in-Stepped.ensures in (
      record {
        symbols = here.symbols;
        is_table = here.is_table;
        is_run = (made.0 here.is_run).next;
        uncounted = here.uncounted;
      },
      made.1,
    )

ends : (g : given.Over) (c : After-count g) → EndsWith c.requires.under_way.is_run c.in-Ended.outcome
ends g c = c.in-Ended.ensures.1 c.requires.under_way.is_run

counts : (g : given.Over) (c : After-count g) → CountsTo c.args.machine.now (steps_of (ends g c).runner) zero_meter
    c.count.new.meter
counts g c =
    let same = c.in-Ended.ensures.0 in
    let last = rw same at c.last_step.ensures in
    counted_at_end c.requires.under_way.is_run zero_meter c.in-Ended.outcome (ends g c)
    (rw (c.requires.under_way.uncounted, same) at c.count.ensures
    ∙ ap (λ n. counted zero_meter n (c.args.limits.now.cells - c.args.self.now.run.room)) last)

pub returns-in-Ended-clause-progress : goal.returns-in-Ended-clause-progress
returns-in-Ended-clause-progress g c =
    let at = (goal.at.returns-in-Ended-clause-progress g c).After-count in
    let end = ends g at in
    record {
      answers = rw c.answer_of.ensures
          (answered c.requires.under_way.is_run c.show_machine.ensures.machine c.in-Ended.outcome end c.requires.ahead);
      counted = record { last = steps_of end.runner; is_last = end.last; counts = counts g at };
    }

pub returns-in-Ended-clause-within : goal.returns-in-Ended-clause-within
returns-in-Ended-clause-within g c =
    let at = (goal.at.returns-in-Ended-clause-within g c).After-count in
    count_is_within _ _ _ _ _ (ends g at).last.inside (counts g at)
