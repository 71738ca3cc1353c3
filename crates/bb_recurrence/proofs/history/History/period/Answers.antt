use Rattle.std.proofs.Common.{◌≡◌, arith, false, true}
use Rattle.bb_recurrence.proofs.Histories.{least_of_parts, no_part_at_first, no_part_on}
use Rattle.bb_recurrence.proofs.Reductions.{multiple_of_itself}
use Rattle.bb_recurrence.proofs.history.History.period.Goals as goal

pub loop-period-init : goal.loop-period-init
loop-period-init c = record {
  some = omega arith;
  none = λ table recorded repeats. no_part_at_first table _ _;
}

pub loop-period-preserved : goal.loop-period-preserved
loop-period-preserved c =
    let here = c.loop-period.invariant in
    record {
      some = omega arith;
      none = λ table recorded repeats.
          let tells : c.is_part.result ≡ false = let test = c.if-is_part.false in cc in
          no_part_on table _ _ _ (here.none table recorded repeats)
          (rw tells at c.is_part.ensures table recorded repeats);
    }

pub returns-then-is_part-clause-least : goal.returns-then-is_part-clause-least
returns-then-is_part-clause-least c table recorded repeats =
    let here = c.loop-period.invariant in
    let tells : c.is_part.result ≡ true = let test = c.if-is_part.true in cc in
    let part = rw tells at c.is_part.ensures table recorded repeats in
    let some = here.some in
    least_of_parts table _ _ _ _ part.1 part.0 (here.none table recorded repeats)
    (λ less half. omega (arith, half, some))

pub returns-clause-least : goal.returns-clause-least
returns-clause-least c table recorded repeats =
    let here = c.loop-period.invariant in
    let past = c.loop-period-test.false in
    least_of_parts table _ _ _ _ repeats (multiple_of_itself _) (here.none table recorded repeats)
    (λ less half. omega (arith, half, past))
