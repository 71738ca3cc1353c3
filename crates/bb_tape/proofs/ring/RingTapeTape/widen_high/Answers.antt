use Rattle.bb_tape.proofs.RingSteps.{wider_high}
use Rattle.bb_tape.proofs.ring.RingTapeTape.widen_high.Goals as goal

pub invariant_of-self : goal.invariant_of-self
invariant_of-self c =
    let wider = wider_high c.args.self.now c.widen_high.new.self c.ranges.p c.requires.next
    c.widen_high.ensures in
    record { whole = wider.whole; clear = wider.clear; sound = wider.sound }

pub returns : goal.returns
returns c =
    (wider_high c.args.self.now c.widen_high.new.self c.ranges.p c.requires.next c.widen_high.ensures).view
