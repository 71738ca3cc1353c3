use Rattle.bb_tape.proofs.RingSteps.{filled_back, filled_between}
use Rattle.bb_tape.proofs.ring.clear_ends.Goals as goal

pub returns-clause-back : goal.returns-clause-back
returns-clause-back c k from =
    filled_back c.args.cells.now c.fill.new.self c.fill-2.new.self c.args.front c.args.back c.fill.ensures.len
    c.requires.front c.requires.back _ k (c.fill-2.ensures.after (λ y e. e)) from

pub returns-clause-between : goal.returns-clause-between
returns-clause-between c =
    filled_between c.args.cells.now c.fill.new.self c.fill-2.new.self c.args.front c.args.back
    c.fill.ensures.len c.requires.front c.requires.back
