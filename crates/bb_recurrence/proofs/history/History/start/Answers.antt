use Rattle.std.proofs.Common.{arith}
use Rattle.bb_recurrence.proofs.Histories.{same_back, start_at_difference, start_at_first}
use Rattle.bb_recurrence.proofs.history.History.start.Goals as goal

pub loop-start-init : goal.loop-start-init
loop-start-init c = record {
  early = omega arith;
  same = λ table recorded n late soon. absurd (omega (arith, late, soon));
}

pub returns-then-not-is_same : goal.returns-then-not-is_same
returns-then-not-is_same c table recorded =
    let here = c.loop-start.invariant in
    start_at_difference table _ _ _ recorded _ c.loop-start-test.true here.early
    (λ same. let is = c.is_same.ensures.1 same in let test = c.if-not-is_same.true in cc) (here.same table recorded)

pub loop-start-preserved : goal.loop-start-preserved
loop-start-preserved c =
    let here = c.loop-start.invariant in
    let early = here.early in
    record {
      early = omega (arith, early);
      same = λ table recorded.
          same_back table _ _ _ recorded _ c.loop-start-test.true here.early
          (c.is_same.ensures.0 (let test = c.if-not-is_same.false in cc)) (here.same table recorded);
    }

pub returns : goal.returns
returns c table recorded =
    let here = c.loop-start.invariant in
    start_at_first table _ _ _ (omega (arith, c.loop-start-test.false)) (here.same table recorded)
