use Rattle.bb_sim.specs.Meter.{CountsTo}
use Rattle.bb_sim.specs.Runner.{steps_of}
use Rattle.bb_sim.proofs.Counting.{counts_start}
use Rattle.bb_sim.proofs.simulation.simulate.Given as given
use Rattle.bb_sim.proofs.simulation.simulate.Goals as goal
use Rattle.bb_sim.proofs.simulation.simulate.Goals.{After-begin_run}

-- the run that begins was counted up to its start
begun : (g : given.Over) (c : After-begin_run g)
    → CountsTo c.args.machine.now (steps_of c.start-runner.result) c.args.meter.now c.begin_run.new.self
begun g c = rw c.start-runner.ensures.steps (counts_start _ _ _ c.begin_run.ensures)

pub simulate_from-requires-clause-counted : goal.simulate_from-requires-clause-counted
simulate_from-requires-clause-counted g c =
    (c.args.meter.now, begun g (goal.at.simulate_from-requires-clause-counted g c).After-begin_run, c.requires.room)

pub returns-clause-counted : goal.returns-clause-counted
returns-clause-counted g c =
    c.simulate_from.ensures.counted c.args.meter.now (begun g (goal.at.returns-clause-counted g c).After-begin_run)

pub returns-clause-cut : goal.returns-clause-cut
returns-clause-cut g c =
    c.simulate_from.ensures.cut c.args.meter.now (begun g (goal.at.returns-clause-cut g c).After-begin_run)

pub returns-clause-within : goal.returns-clause-within
returns-clause-within g c =
    c.simulate_from.ensures.within c.args.meter.now (begun g (goal.at.returns-clause-within g c).After-begin_run)
