use Rattle.std.proofs.Common.{◌*◌, refl, ap, arith, rules}
use Rattle.bb_cert.proofs.Facts.{repeats_never_halt}
use Rattle.bb_sim.proofs.Facts.{count_is_within}
use Rattle.bb_decide.proofs.Benches.{lent_at_first, lent_on, lent_uncounted}
use Rattle.bb_decide.proofs.Counted.{cut_after_step, taken_over}
use Rattle.bb_decide.proofs.Cycles.{apart, comes_again, first_cycle, goes_on, keeps_this, kept_earlier}
use Rattle.bb_decide.proofs.Cycles.{no_cycle_at_end, searching_at_first}
use Rattle.bb_decide.proofs.SearchResults.{has_ended, seeks_and_finds, seeks_to_end, seeks_until_cut}
use Rattle.bb_decide.proofs.cycle.seek_cycle.Goals as goal

pub loop-moved-init : goal.loop-moved-init
loop-moved-init g c =
    let kept_zero = c.start-kept.ensures.steps in
    record {
      search = searching_at_first c.start-runner.ensures.stands c.start-runner.ensures.steps
          c.start-kept.ensures.stands kept_zero;
      lent = lent_on c.start-runner.ensures.limit c.start-kept.ensures.limit refl
          (lent_at_first c.requires.tapes);
      next = omega (arith, kept_zero);
    }

pub step_on-requires-clause-room : goal.step_on-requires-clause-room
step_on-requires-clause-room g c = rw c.loop-moved.invariant.lent.meter c.requires.room

-- no memory for a step
pub returns-in_default : goal.returns-in_default
returns-in_default g c =
    let call = c.in_default.ensures in
    seeks_until_cut (lent_on c.step_on.ensures.limit refl refl c.loop-moved.invariant.lent)
    (record { part = call.cut; at = refl; within = call.within }) call.memory

pub returns-in_default-moved : goal.returns-in_default-moved
returns-in_default-moved g c =
    let here = c.loop-moved.invariant in
    let ended = has_ended _ _ _ _ _ _ _ _ c.in_default-moved.not-Stepped c.in-Ok.ensures.goes_on in
    seeks_to_end (lent_on c.step_on.ensures.limit refl refl here.lent) ended c.outcome_of.ensures
    (no_cycle_at_end here.search ended)

pub count_run-requires : goal.count_run-requires
count_run-requires g c = (rw c.in-Stepped.is at c.in-Ok.ensures.goes_on).3

pub returns-then-is_same : goal.returns-then-is_same
returns-then-is_same g c =
    let here = c.loop-moved.invariant in
    let step = rw c.in-Stepped.is at c.in-Ok.ensures.goes_on in
    let again = comes_again here.search step.0 step.1 c.is_same.ensures c.if-is_same.true in
    let earlier = kept_earlier here.search step.0 step.1 in
    let counts = taken_over step.0.stands _ c.count_run.ensures in
    seeks_and_finds (lent_on c.step_on.ensures.limit refl refl (lent_uncounted step.2 here.lent)) (record {
      found = rw (c.steps.ensures, c.steps-then-is_same.ensures)
          (first_cycle here.search step.0 step.1 again);
      counted = rw c.steps-then-is_same.ensures counts;
      within = count_is_within _ _ _ _ _ step.1 counts;
      never = repeats_never_halt _ _ _ earlier again;
      claim = rw (c.steps.ensures, c.steps-then-is_same.ensures) (earlier, again);
      numbers = search rules;
    })

pub count_run-requires-in_default-save : goal.count_run-requires-in_default-save
count_run-requires-in_default-save g c = (rw c.in-Stepped.is at c.in-Ok.ensures.goes_on).3

-- no memory to keep a configuration
pub returns-in_default-save : goal.returns-in_default-save
returns-in_default-save g c =
    let step = rw c.in-Stepped.is at c.in-Ok.ensures.goes_on in
    seeks_until_cut
    (lent_on c.step_on.ensures.limit c.save.ensures.limit refl
    (lent_uncounted step.2 c.loop-moved.invariant.lent))
    (cut_after_step step.0.stands step.1 c.count_run-in_default-save.ensures)
    c.in_default-save.ensures.only_memory.1

pub loop-moved-preserved-then-steps-next_kept : goal.loop-moved-preserved-then-steps-next_kept
loop-moved-preserved-then-steps-next_kept g c =
    let here = c.loop-moved.invariant in
    let step = rw c.in-Stepped.is at c.in-Ok.ensures.goes_on in
    let at = here.next in
    record {
      search = keeps_this here.search step.0 step.1
          (apart here.search step.0 step.1 c.is_same.ensures c.if-is_same.false)
          (omega (arith, at, c.if-steps-next_kept.true, c.steps-in-loop-moved.ensures))
          (rw c.in-Ok-save.ensures.ok step.0.stands);
      lent = lent_on c.step_on.ensures.limit c.in-Ok-save.ensures.limit refl
          (lent_uncounted step.2 here.lent);
      next = ap (λ n. 2 * n) c.steps-next_kept.ensures;
    }

pub loop-moved-preserved : goal.loop-moved-preserved
loop-moved-preserved g c =
    let here = c.loop-moved.invariant in
    let step = rw c.in-Stepped.is at c.in-Ok.ensures.goes_on in
    let at = here.next in
    record {
      search = goes_on here.search step.0 step.1
          (apart here.search step.0 step.1 c.is_same.ensures c.if-is_same.false)
          (omega (arith, at, c.if-steps-next_kept.false, c.steps-in-loop-moved.ensures));
      lent = lent_on c.step_on.ensures.limit refl refl (lent_uncounted step.2 here.lent);
      next = here.next;
    }
