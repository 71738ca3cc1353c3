use Rattle.bb_tape.proofs.RingSteps.{wider_low}
use Rattle.bb_tape.proofs.ring.RingTapeTape.widen_low.Goals as goal

pub invariant_of-self : goal.invariant_of-self
invariant_of-self c =
    let wider = wider_low c.args.self.now c.widen_low.new.self c.ranges.p c.requires.next
    c.widen_low.ensures in
    record { whole = wider.whole; clear = wider.clear; sound = wider.sound }

pub returns : goal.returns
returns c =
    (wider_low c.args.self.now c.widen_low.new.self c.ranges.p c.requires.next c.widen_low.ensures).view
