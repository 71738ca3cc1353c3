use Rattle.std.proofs.Common.{refl, rules}
use Rattle.std.proofs.lemmas.Result.{err_from_is_err_and}
use Rattle.bb_decide.proofs.Benches.{lent_at_first, lent_on, lent_uncounted}
use Rattle.bb_decide.proofs.Counted.{cut_after_step}
use Rattle.bb_decide.proofs.SearchResults.{has_ended, seeks_and_finds, seeks_to_end, seeks_until_cut}
use Rattle.bb_decide.proofs.Translations.{IsTakenIn, goes_on, is_found, is_ready, looks_at_none, looks_at_one}
use Rattle.bb_decide.proofs.Translations.{none_at_end, searching_at_first, takes_in, tells_pair}
use Rattle.bb_sim.specs.Runner.{steps_of}
use Rattle.bb_decide.proofs.Halting.{is_none}
use Rattle.bb_decide.proofs.translation.seek_translation.Given as given
use Rattle.bb_decide.proofs.translation.seek_translation.Goals as goal
use Rattle.bb_decide.proofs.translation.seek_translation.Goals.{After-widened_side}

pub loop-moved-init : goal.loop-moved-init
loop-moved-init g c = record {
  search = searching_at_first c.start-runner.ensures.stands c.start-runner.ensures.steps c.new-right.ensures
      c.new-left.ensures;
  lent = lent_on c.start-runner.ensures.limit refl refl (lent_at_first c.requires.tapes);
}

pub step_on-requires-clause-room : goal.step_on-requires-clause-room
step_on-requires-clause-room g c = rw c.loop-moved.invariant.lent.meter c.requires.room

-- no memory for a step
pub returns-in_default : goal.returns-in_default
returns-in_default g c =
    let call = c.in_default.ensures in
    seeks_until_cut (lent_on c.step_on.ensures.limit refl refl c.loop-moved.invariant.lent)
    (record { part = call.cut; at = refl; within = call.within }) call.memory

pub returns-in_default-moved : goal.returns-in_default-moved
returns-in_default-moved g c =
    let here = c.loop-moved.invariant in
    let ended = has_ended _ _ _ _ _ _ _ _ c.in_default-moved.not-Stepped c.in-Ok.ensures.goes_on in
    seeks_to_end (lent_on c.step_on.ensures.limit refl refl here.lent) ended c.outcome_of.ensures
    (none_at_end here.search ended)

-- the step that was made, as both sides have taken it in
taken_in : (g : given.Over) (c : After-widened_side g)
    → IsTakenIn c.args.machine.now (steps_of c.loop-moved.runner) c.step_on.new.runner
    (g.T.Tape.view c.step_on.new.tape) c.pass.new.self c.pass-in-loop-moved.new.self
    (g.T.Tape.view c.loop-moved.bench.right) (g.T.Tape.view c.loop-moved.bench.left) c.widened_side.result
taken_in g c =
    takes_in c.loop-moved.invariant.search.searched (rw c.in-Stepped.is at c.in-Ok.ensures.goes_on).0
    c.cells-cells.ensures _ c.widened_side.ensures (search rules) c.position.ensures c.pass.ensures
    (search rules) c.position-in-loop-moved.ensures c.pass-in-loop-moved.ensures

-- a step that widens nothing makes no record
pub loop-moved-preserved-in_default-widened_side : goal.loop-moved-preserved-in_default-widened_side
loop-moved-preserved-in_default-widened_side g c =
    let here = c.loop-moved.invariant in
    let step = rw c.in-Stepped.is at c.in-Ok.ensures.goes_on in
    let taken = taken_in g (goal.at.loop-moved-preserved-in_default-widened_side g c).After-widened_side in
    record {
      search = goes_on here.search step.0 step.1
          (looks_at_none taken (is_none _ c.in_default-widened_side.not-Some));
      lent = lent_on c.step_on.ensures.limit refl refl (lent_uncounted step.2 here.lent);
    }

-- else the record that it makes is looked at
pub compare_record-requires-clause-ready : goal.compare_record-requires-clause-ready
compare_record-requires-clause-ready g c =
    is_ready (taken_in g (goal.at.compare_record-requires-clause-ready g c).After-widened_side) _ c.in-Some.is
    (g.met.T.Tape.sound c.step_on.new.tape)

pub compare_record-requires-clause-room : goal.compare_record-requires-clause-room
compare_record-requires-clause-room g c = (rw c.in-Stepped.is at c.in-Ok.ensures.goes_on).3

-- no memory to keep it
pub returns-in_err-verdict : goal.returns-in_err-verdict
returns-in_err-verdict g c =
    let step = rw c.in-Stepped.is at c.in-Ok.ensures.goes_on in
    let call = c.in_err-verdict.ensures in
    let fault = err_from_is_err_and c.from_residual.result c.from_residual.ensures.1 in
    rw fault.1 (seeks_until_cut (lent_on c.step_on.ensures.limit c.compare_record.ensures.right_limit
    c.compare_record.ensures.left_limit (lent_uncounted step.2 c.loop-moved.invariant.lent))
    (cut_after_step step.0.stands step.1 call.cut) call.memory)

pub returns-in-Some-2 : goal.returns-in-Some-2
returns-in-Some-2 g c =
    let here = c.loop-moved.invariant in
    let step = rw c.in-Stepped.is at c.in-Ok.ensures.goes_on in
    let call = c.in_ok-verdict.ensures in
    let tells = tells_pair (taken_in g (goal.at.returns-in-Some-2 g c).After-widened_side) _ _ _ _ _
    c.in-Some.is _ (rw c.in-Some-2.is at call.looks) in
    seeks_and_finds (lent_on c.step_on.ensures.limit call.right_limit call.left_limit
    (lent_uncounted call.uncounted (lent_uncounted step.2 here.lent)))
    (is_found here.search step.0 step.1 (tells, rw c.in-Some-2.is at call.numbers, c.count_run.ensures))

pub loop-moved-preserved : goal.loop-moved-preserved
loop-moved-preserved g c =
    let here = c.loop-moved.invariant in
    let step = rw c.in-Stepped.is at c.in-Ok.ensures.goes_on in
    let call = c.in_ok-verdict.ensures in
    record {
      search = goes_on here.search step.0 step.1
          (looks_at_one (taken_in g (goal.at.loop-moved-preserved g c).After-widened_side) _ _ _ _ _
          c.in-Some.is (rw c.in-None.is at call.looks));
      lent = lent_on c.step_on.ensures.limit call.right_limit call.left_limit
          (lent_uncounted call.uncounted (lent_uncounted step.2 here.lent));
    }
