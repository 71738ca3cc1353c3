use Rattle.std.proofs.Common.{rules}
use Rattle.bb_recurrence.proofs.Histories.{part_by_place, part_by_remainder, part_by_steps}
use Rattle.bb_recurrence.proofs.history.History.is_part.Goals as goal

pub returns-then-not-is_same : goal.returns-then-not-is_same
returns-then-not-is_same c table recorded repeats =
    part_by_place table _ _ _ _ c.requires.some c.requires.less repeats recorded
    (λ same. let is = c.is_same.ensures.1 same in let test = c.if-not-is_same.true in cc)

pub returns-then-known-period-ne0 : goal.returns-then-known-period-ne0
returns-then-known-period-ne0 c table recorded repeats =
    part_by_remainder table _ _ _ _ c.requires.some c.requires.less repeats recorded c.if-known-period-ne0.true

pub returns : goal.returns
returns c table recorded repeats =
    part_by_steps table _ _ _ _ c.requires.some c.requires.less repeats recorded _ (search rules)
    (c.repeats.ensures table recorded)
