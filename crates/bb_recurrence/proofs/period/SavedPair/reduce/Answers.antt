use Rattle.std.proofs.Common.{◌≡◌, ◌∙◌, arith, false, true, refl}
use Rattle.bb_recurrence.proofs.Divisors.{half_at_most, quotient_of, some_quotient}
use Rattle.bb_recurrence.proofs.Reductions.{divides_further, multiple_of_itself, reduced_by_remainder, reduced_by_test}
use Rattle.bb_recurrence.proofs.period.SavedPair.reduce.Goals as goal

pub loop-period-init : goal.loop-period-init
loop-period-init g c = record {
  saved = refl;
  tapes = c.requires.tapes;
  some = c.requires.repeats.some;
  less = omega arith;
  divides = multiple_of_itself _;
  repeats = c.requires.repeats;
  no_less = omega arith;
  counted = omega arith;
}

pub returns-then-not-branch-clause-reduced : goal.returns-then-not-branch-clause-reduced
returns-then-not-branch-clause-reduced g c =
    let here = c.loop-period.invariant in
    let tells : c.in_ok-repeats_with.field-0 ≡ false = let test = c.if-not-branch.true in cc in
    reduced_by_test _ _ _ _ _ c.requires.above c.loop-period-test.true here.divides here.repeats
    (rw tells at c.in_ok-repeats_with.ensures.tells)

pub loop-period-preserved : goal.loop-period-preserved
loop-period-preserved g c =
    let here = c.loop-period.invariant in
    let tells : c.in_ok-repeats_with.field-0 ≡ true = let test = c.if-not-branch.false in cc in
    let some = here.some in
    let less = here.less in
    let counted = here.counted in
    let few = c.in_ok-repeats_with.ensures.few in
    let is = quotient_of _ _ c.loop-period-test.true in
    let half = half_at_most _ _ _ c.requires.above is in
    record {
      saved = c.in_ok-repeats_with.ensures.saved ∙ here.saved;
      tapes = c.repeats_with.ensures.tapes;
      some = some_quotient _ _ _ some is;
      less = omega (arith, half, less);
      divides = divides_further _ _ _ c.loop-period-test.true here.divides;
      repeats = rw tells at c.in_ok-repeats_with.ensures.tells;
      no_less = omega (arith, here.no_less, c.in_ok-repeats_with.ensures.no_less);
      counted = omega (arith, half, counted, few);
    }

pub returns-clause-reduced : goal.returns-clause-reduced
returns-clause-reduced g c =
    let here = c.loop-period.invariant in
    reduced_by_remainder _ _ _ _ _ c.loop-period-test.false here.divides here.repeats
