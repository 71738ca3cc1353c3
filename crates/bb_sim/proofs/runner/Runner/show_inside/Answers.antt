use Rattle.bb_sim.proofs.Outcomes.{inside_here}
use Rattle.bb_sim.proofs.runner.Runner.show_inside.Goals as goal

pub returns : goal.returns
returns g c = inside_here _ _ _ _ c.requires.stands (g.met.T.Tape.sound c.args.tape.now) c.requires.limit
    c.requires.steps
