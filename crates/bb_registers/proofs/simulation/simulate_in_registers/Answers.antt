use Rattle.std.proofs.Common.{◌-◌, ◌∙◌, ap, arith}
use Rattle.bb_sim.specs.Meter.{CountsTo, counted}
use Rattle.bb_sim.specs.Runner.{steps_of}
use Rattle.bb_sim.proofs.Facts.{count_is_within}
use Rattle.bb_registers.specs.Registers.{EndsWith}
use Rattle.bb_registers.proofs.Counts.{counted_at_end, counted_so_far}
use Rattle.bb_registers.proofs.simulation.simulate_in_registers.Given as given
use Rattle.bb_registers.proofs.simulation.simulate_in_registers.Goals as goal
use Rattle.bb_registers.proofs.simulation.simulate_in_registers.Goals.{After-count, In-Some}

-- the run was counted up to where it goes on
so_far : (g : given.Over) (c : After-count g)
    → CountsTo c.args.machine.now (steps_of c.in-Ok.runner) c.args.meter.now c.count.new.meter
so_far g c =
    let known = c.run_in_registers-end.ensures.run in
    counted_so_far known c.args.meter.now _ (c.in-Ok.ensures.steps ∙ known.steps_is) c.count.ensures

pub simulate_in_blocks-requires-clause-counted : goal.simulate_in_blocks-requires-clause-counted
simulate_in_blocks-requires-clause-counted g c =
    (c.args.meter.now, so_far g (goal.at.simulate_in_blocks-requires-clause-counted g c).After-count, c.requires.room)

pub returns-in_default-clause-counted : goal.returns-in_default-clause-counted
returns-in_default-clause-counted g c =
    c.simulate_in_blocks.ensures.counted c.args.meter.now
    (so_far g (goal.at.returns-in_default-clause-counted g c).After-count)

pub returns-in_default-clause-cut : goal.returns-in_default-clause-cut
returns-in_default-clause-cut g c =
    c.simulate_in_blocks.ensures.cut c.args.meter.now (so_far g (goal.at.returns-in_default-clause-cut g c).After-count)

pub returns-in_default-clause-within : goal.returns-in_default-clause-within
returns-in_default-clause-within g c =
    c.simulate_in_blocks.ensures.within c.args.meter.now
    (so_far g (goal.at.returns-in_default-clause-within g c).After-count)

-- how the run has ended
ended : (g : given.Over) (c : In-Some g) → EndsWith c.run_in_registers-end.ensures.run c.in-Some.outcome
ended g c = (rw c.in-Some.is at c.run_in_registers-end.ensures.ended) c.run_in_registers-end.ensures.run

pub count-requires-2-clause-room : goal.count-requires-2-clause-room
count-requires-2-clause-room g c =
    let end = ended g (goal.at.count-requires-2-clause-room g c).In-Some in
    omega (arith, c.last_step.ensures, end.made, end.last.inside.within_steps, c.requires.room)

pub returns-clause-outcome : goal.returns-clause-outcome
returns-clause-outcome g c = (ended g (goal.at.returns-clause-outcome g c).In-Some).is_outcome

pub returns-clause-counted : goal.returns-clause-counted
returns-clause-counted g c =
    let end = ended g (goal.at.returns-clause-counted g c).In-Some in
    record {
      last = steps_of end.runner;
      is_last = end.last;
      counts = counted_at_end c.run_in_registers-end.ensures.run c.args.meter.now _ end (c.count-2.ensures
          ∙ ap (λ n. counted c.args.meter.now n (c.args.limits.now.cells - c.run_in_registers-end.result.run.room))
          c.last_step.ensures);
    }

pub returns-clause-within : goal.returns-clause-within
returns-clause-within g c =
    let end = ended g (goal.at.returns-clause-within g c).In-Some in
    count_is_within _ _ _ _ _ end.last.inside
    (counted_at_end c.run_in_registers-end.ensures.run c.args.meter.now _ end (c.count-2.ensures
    ∙ ap (λ n. counted c.args.meter.now n (c.args.limits.now.cells - c.run_in_registers-end.result.run.room))
    c.last_step.ensures))
