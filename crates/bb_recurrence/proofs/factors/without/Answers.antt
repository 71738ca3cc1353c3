use Rattle.bb_recurrence.proofs.Divisors.{divided_at_first, divided_more, part_without}
use Rattle.bb_recurrence.proofs.factors.without.Goals as goal

pub loop-rest-init : goal.loop-rest-init
loop-rest-init c = divided_at_first _ _ c.requires.some

pub loop-rest-preserved : goal.loop-rest-preserved
loop-rest-preserved c =
    divided_more _ _ _ c.requires.above c.loop-rest-test.true c.loop-rest.invariant

pub returns : goal.returns
returns c = part_without _ _ _ c.loop-rest-test.false c.loop-rest.invariant
