use Rattle.std.proofs.lemmas.Bool.{both_ways}
use Rattle.std.proofs.Common.{refl, rules, ◌≡◌, ◌∙◌, ap, arith, subst, w64, FitsSigned}
use Rattle.std.proofs.lemmas.Int.{to_z-of_z}
use Rattle.std.specs.Prelude.{IfSome}
use Rattle.bb_decide.specs.inside.BlockPasses.{IsBlockTable}
use Rattle.bb_sim.specs.declared.meter.Meter.{Meter}
use Rattle.std.proofs.lemmas.Result.{err_from_is_err_and}
use Rattle.bb_decide.specs.Fingerprint.{fingerprint}
use Rattle.bb_decide.proofs.BlockPasses.{is_under_way, passed_again}
use Rattle.bb_decide.proofs.Benches.{lent_at_first, lent_on, lent_uncounted}
use Rattle.bb_decide.proofs.Counted.{cut_after_step, cut_at_step, few_steps, has_moved, taken_over}
use Rattle.bb_decide.proofs.Cycles.{no_cycle_at_end}
use Rattle.bb_decide.proofs.SearchResults.{ends_into_Z, ends_where_stopped, runs_and_finds, runs_to_end}
use Rattle.bb_decide.proofs.SearchResults.{runs_to_stop, runs_until_cut}
use Rattle.bb_decide.proofs.Translations.{IsTakenIn, goes_on, is_found, is_ready, looks_at_none, looks_at_one}
use Rattle.bb_decide.proofs.Translations.{none_at_end, takes_in, tells_pair}
use Rattle.bb_sim.specs.Runner.{steps_of}
use Rattle.bb_sim.proofs.Facts.{head_inside, small_position}
use Rattle.bb_sim.specs.Span.{Inside}
use Rattle.bb_decide.specs.inside.Step.{HasMoved}
use Rattle.bb_decide.proofs.Halting.{in_no_state, is_none, not_in_Z}
use Rattle.bb_decide.proofs.SinglePass.{not_stopped_at_end, not_stopped_at_record}
use Rattle.bb_decide.proofs.SinglePass.{current_known, still_wide}
use Rattle.bb_decide.proofs.SinglePass.{readable_here, still_inside, stopped, single_pass_on}
use Rattle.bb_decide.proofs.single_pass.run_single_pass_inline.Given as given
use Rattle.bb_decide.proofs.single_pass.run_single_pass_inline.Goals as goal
use Rattle.bb_decide.proofs.single_pass.run_single_pass_inline.Goals.{After-update_fingerprint, After-widened_side}

pub loop-moved-init : goal.loop-moved-init
loop-moved-init g c = record {
  search = rw (c.of_side-right.ensures, c.of_side-left.ensures) c.requires.begun.search;
  single_pass = c.requires.begun.single_pass;
  lent = lent_at_first c.requires.tapes;
}

pub count_run-requires-in_default-moved : goal.count_run-requires-in_default-moved
count_run-requires-in_default-moved g c =
    let few = few_steps c.args.machine.now c.args.limits.now c.advance.new.self
    (g.T.Tape.view c.advance.new.tape) _ c.in-Ok.ensures.reaches in
    let same = ap (λ (m : Meter). m.steps) c.loop-moved.invariant.lent.meter in
    omega (arith, few, same, c.show_accepted.ensures.accepted.steps, c.requires.room)

-- no memory for a step
pub returns-in_default : goal.returns-in_default
returns-in_default g c =
    let call = c.in_default.ensures in
    runs_until_cut (lent_on c.advance.ensures.limit refl refl c.loop-moved.invariant.lent)
    (cut_at_step c.loop-moved.runner c.advance.new.self c.loop-moved.invariant.search.stands
    c.advance.ensures.before call.wanted call.unmade call.window call.unwritten c.count_run.ensures)
    c.loop-moved.invariant.single_pass.wide call.memory

pub returns-in_default-moved : goal.returns-in_default-moved
returns-in_default-moved g c =
    let here = c.loop-moved.invariant in
    let call = c.in-Ok.ensures in
    let ended = ends_where_stopped call.stands c.count_run-in_default-moved.ensures _ _ _ _
    c.in_default-moved.not-Stepped call.answers call.reaches call.moves in
    runs_to_end (lent_on c.advance.ensures.limit refl refl here.lent)
    (not_stopped_at_end here.single_pass ended) ended c.outcome_of.ensures (none_at_end here.search ended)
    (no_cycle_at_end here.single_pass.search ended)

-- a step into Z ends the run
pub returns-in_default-state : goal.returns-in_default-state
returns-in_default-state g c =
    let here = c.loop-moved.invariant in
    let call = c.in-Ok.ensures in
    let ended = ends_into_Z call.stands c.count_run-in_default-state.ensures
    (in_no_state _ _ c.state.ensures c.in_default-state.not-Some) (rw c.in-Stepped.is at call.reaches).0
    (rw c.in-Stepped.is at call.moves).0 in
    runs_to_end (lent_on c.advance.ensures.limit refl refl here.lent)
    (not_stopped_at_end here.single_pass ended) ended c.outcome_of-in_default-state.ensures
    (none_at_end here.search ended) (no_cycle_at_end here.single_pass.search ended)

-- where the head stood
pub read_inside-old-requires : goal.read_inside-old-requires
read_inside-old-requires g c =
    let here = c.loop-moved.invariant in
    (readable_here here.search.stands here.single_pass.running (g.met.T.Tape.sound c.loop-moved.bench.run)
    (search rules) c.position-position.ensures).inside

pub read_inside-new-requires : goal.read_inside-new-requires
read_inside-new-requires g c =
    let here = c.loop-moved.invariant in
    let call = c.in-Ok.ensures in
    let step = has_moved here.search.stands call.stands _ _ _ c.in-Stepped.is call.reaches call.moves
    (not_in_Z c.in-Some.ensures) in
    still_inside here.search.stands here.single_pass.running step.0 (search rules) c.position-position.ensures

pub update_fingerprint-requires-clause-low : goal.update_fingerprint-requires-clause-low
update_fingerprint-requires-clause-low g c =
    let here = c.loop-moved.invariant in
    (readable_here here.search.stands here.single_pass.running (g.met.T.Tape.sound c.loop-moved.bench.run)
    (search rules) c.position-position.ensures).low

pub update_fingerprint-requires-clause-high : goal.update_fingerprint-requires-clause-high
update_fingerprint-requires-clause-high g c =
    let here = c.loop-moved.invariant in
    (readable_here here.search.stands here.single_pass.running (g.met.T.Tape.sound c.loop-moved.bench.run)
    (search rules) c.position-position.ensures).high

pub update_fingerprint-requires-clause-old : goal.update_fingerprint-requires-clause-old
update_fingerprint-requires-clause-old g c =
    rw c.read_inside-old.ensures ((g.met.T.Tape.sound c.loop-moved.bench.run).symbols _)

-- the step that was made
step_made : (g : given.Over) (c : After-update_fingerprint g)
    → HasMoved c.args.machine.now c.loop-moved.runner c.advance.new.self (g.T.Tape.view c.advance.new.tape)
    × Inside c.args.machine.now c.args.limits.now (steps_of c.advance.new.self)
step_made g c =
    let made = c.in-Ok.ensures in
    has_moved c.loop-moved.invariant.search.stands made.stands _ _ _ c.in-Stepped.is made.reaches made.moves
    (not_in_Z c.in-Some.ensures)

-- the fingerprint is that of the tape after the step
current : (g : given.Over) (c : After-update_fingerprint g) → c.update_fingerprint.result
    ≡ fingerprint (g.K.FingerprintKeys.key_of c.args.keys.now) (g.T.Tape.view c.advance.new.tape).content
current g c = current_known c.loop-moved.invariant.single_pass (step_made g c).0 (search rules)
    c.position-position.ensures c.read_inside-old.ensures c.read_inside-new.ensures c.update_fingerprint.ensures

pub returns-then-are_as_kept : goal.returns-then-are_as_kept
returns-then-are_as_kept g c =
    let here = c.loop-moved.invariant in
    let step = step_made g (goal.at.returns-then-are_as_kept g c).After-update_fingerprint in
    runs_to_stop (lent_on c.advance.ensures.limit refl refl here.lent) _
    (stopped here.single_pass step.0 step.1 refl (current g (goal.at.returns-then-are_as_kept g c).After-update_fingerprint)
    here.search.none (c.are_as_kept.ensures.0 c.if-are_as_kept.true))
    (taken_over step.0.stands _ c.count_run-then-are_as_kept.ensures)

-- the step that was made, as both sides have taken it in
taken_in : (g : given.Over) (c : After-widened_side g)
    → IsTakenIn c.args.machine.now (steps_of c.loop-moved.runner) c.advance.new.self
    (g.T.Tape.view c.advance.new.tape) c.pass.new.self c.pass-in-loop-moved.new.self
    (g.T.Tape.view c.loop-moved.bench.right) (g.T.Tape.view c.loop-moved.bench.left) c.widened_side.result
taken_in g c =
    let here = c.loop-moved.invariant in
    let made = c.in-Ok.ensures in
    let step = has_moved here.search.stands made.stands _ _ _ c.in-Stepped.is made.reaches made.moves
    (not_in_Z c.in-Some.ensures) in
    takes_in here.search.searched step.0 c.cells-cells.ensures _ c.widened_side.ensures (search rules)
    c.position.ensures c.pass.ensures (search rules) c.position-in-loop-moved.ensures
    c.pass-in-loop-moved.ensures

-- a step that widens nothing makes no record, and the run goes on in a block
pub block_for-requires-clause-low : goal.block_for-requires-clause-low
block_for-requires-clause-low g c =
    let step = step_made g (goal.at.block_for-requires-clause-low g c).After-update_fingerprint in
    (small_position _ _ (g.met.T.Tape.sound c.advance.new.tape)
    (head_inside _ _ _ step.0.stands step.0.running)).0

pub block_for-requires-clause-high : goal.block_for-requires-clause-high
block_for-requires-clause-high g c =
    let step = step_made g (goal.at.block_for-requires-clause-high g c).After-update_fingerprint in
    (small_position _ _ (g.met.T.Tape.sound c.advance.new.tape)
    (head_inside _ _ _ step.0.stands step.0.running)).1

pub loop-moved-preserved-in_default-block_for : goal.loop-moved-preserved-in_default-block_for
loop-moved-preserved-in_default-block_for g c =
    let here = c.loop-moved.invariant in
    let step = step_made g (goal.at.loop-moved-preserved-in_default-block_for g c).After-update_fingerprint in
    let taken = taken_in g (goal.at.loop-moved-preserved-in_default-block_for g c).After-widened_side in
    let under = is_under_way here.search here.single_pass step.0 step.1
    (looks_at_none taken (is_none _ c.in_default-widened_side.not-Some)) refl
    (current g (goal.at.loop-moved-preserved-in_default-block_for g c).After-update_fingerprint)
    (λ same. both_ways _ c.if-are_as_kept.false (c.are_as_kept.ensures.1 same)) c.keep_in_turn.ensures in
    record {
      search = under.search;
      single_pass = under.single_pass;
      lent = lent_on c.advance.ensures.limit refl refl here.lent;
    }

pub loop-moved-preserved-in_default-table : goal.loop-moved-preserved-in_default-table
loop-moved-preserved-in_default-table g c =
    let here = c.loop-moved.invariant in
    let step = step_made g (goal.at.loop-moved-preserved-in_default-table g c).After-update_fingerprint in
    let taken = taken_in g (goal.at.loop-moved-preserved-in_default-table g c).After-widened_side in
    let under = is_under_way here.search here.single_pass step.0 step.1
    (looks_at_none taken (is_none _ c.in_default-widened_side.not-Some)) refl
    (current g (goal.at.loop-moved-preserved-in_default-table g c).After-update_fingerprint)
    (λ same. both_ways _ c.if-are_as_kept.false (c.are_as_kept.ensures.1 same)) c.keep_in_turn.ensures in
    record {
      search = under.search;
      single_pass = under.single_pass;
      lent = lent_on c.advance.ensures.limit refl refl here.lent;
    }

pub pass_block-pass-requires-clause-table : goal.pass_block-pass-requires-clause-table
pass_block-pass-requires-clause-table g c =
    subst (λ table. IfSome table (IsBlockTable g.T.Tape.GROWS c.args.machine.now)) c.in-Some-table.is c.requires.table

pub pass_block-pass-requires-clause-can : goal.pass_block-pass-requires-clause-can
pass_block-pass-requires-clause-can g c =
    let here = c.loop-moved.invariant in
    let step = step_made g (goal.at.pass_block-pass-requires-clause-can g c).After-update_fingerprint in
    let taken = taken_in g (goal.at.pass_block-pass-requires-clause-can g c).After-widened_side in
    let under = is_under_way here.search here.single_pass step.0 step.1
    (looks_at_none taken (is_none _ c.in_default-widened_side.not-Some)) refl
    (current g (goal.at.pass_block-pass-requires-clause-can g c).After-update_fingerprint)
    (λ same. both_ways _ c.if-are_as_kept.false (c.are_as_kept.ensures.1 same)) c.keep_in_turn.ensures in
    record {
      right = _;
      left = _;
      way = under;
      limit = c.advance.ensures.limit ∙ here.lent.tapes.run;
      right_passed = passed_again _ _ _ _ (search rules) c.position.ensures c.pass.ensures;
      left_passed = passed_again _ _ _ _ (search rules) c.position-in-loop-moved.ensures c.pass-in-loop-moved.ensures;
    }

pub pass_block-pass-requires-clause-block : goal.pass_block-pass-requires-clause-block
pass_block-pass-requires-clause-block g c =
    let from_fits : FitsSigned w64 c.in-Some-block_for.from = search rules in
    simp to_z-of_z c.in-Some-block_for.ensures

pub of_side-right-requires-in_default-widened_side : goal.of_side-right-requires-in_default-widened_side
of_side-right-requires-in_default-widened_side g c =
    let here = c.loop-moved.invariant in
    let step = step_made g (goal.at.of_side-right-requires-in_default-widened_side g c).After-update_fingerprint in
    let taken = taken_in g (goal.at.of_side-right-requires-in_default-widened_side g c).After-widened_side in
    let under = is_under_way here.search here.single_pass step.0 step.1
    (looks_at_none taken (is_none _ c.in_default-widened_side.not-Some)) refl
    (current g (goal.at.of_side-right-requires-in_default-widened_side g c).After-update_fingerprint)
    (λ same. both_ways _ c.if-are_as_kept.false (c.are_as_kept.ensures.1 same)) c.keep_in_turn.ensures in
    record { side = (c.pass_block-pass.ensures.pass _ _ under).search.searched.right_is }

pub of_side-left-requires-in_default-widened_side : goal.of_side-left-requires-in_default-widened_side
of_side-left-requires-in_default-widened_side g c =
    let here = c.loop-moved.invariant in
    let step = step_made g (goal.at.of_side-left-requires-in_default-widened_side g c).After-update_fingerprint in
    let taken = taken_in g (goal.at.of_side-left-requires-in_default-widened_side g c).After-widened_side in
    let under = is_under_way here.search here.single_pass step.0 step.1
    (looks_at_none taken (is_none _ c.in_default-widened_side.not-Some)) refl
    (current g (goal.at.of_side-left-requires-in_default-widened_side g c).After-update_fingerprint)
    (λ same. both_ways _ c.if-are_as_kept.false (c.are_as_kept.ensures.1 same)) c.keep_in_turn.ensures in
    record { side = (c.pass_block-pass.ensures.pass _ _ under).search.searched.left_is }

pub loop-moved-preserved-in_default-widened_side : goal.loop-moved-preserved-in_default-widened_side
loop-moved-preserved-in_default-widened_side g c =
    let here = c.loop-moved.invariant in
    let step = step_made g (goal.at.loop-moved-preserved-in_default-widened_side g c).After-update_fingerprint in
    let taken = taken_in g (goal.at.loop-moved-preserved-in_default-widened_side g c).After-widened_side in
    let under = is_under_way here.search here.single_pass step.0 step.1
    (looks_at_none taken (is_none _ c.in_default-widened_side.not-Some)) refl
    (current g (goal.at.loop-moved-preserved-in_default-widened_side g c).After-update_fingerprint)
    (λ same. both_ways _ c.if-are_as_kept.false (c.are_as_kept.ensures.1 same)) c.keep_in_turn.ensures in
    let after = c.pass_block-pass.ensures.pass _ _ under in
    record {
      search = rw (c.of_side-right-in_default-widened_side.ensures, c.of_side-left-in_default-widened_side.ensures) after.search;
      single_pass = after.single_pass;
      lent = lent_on (c.pass_block-pass.ensures.limit ∙ c.advance.ensures.limit) refl refl here.lent;
    }

-- else the record that it makes is looked at
pub compare_record-requires-clause-ready : goal.compare_record-requires-clause-ready
compare_record-requires-clause-ready g c =
    let taken = taken_in g (goal.at.compare_record-requires-clause-ready g c).After-widened_side in
    is_ready taken _ c.in-Some-widened_side.is (g.met.T.Tape.sound c.advance.new.tape)

pub compare_record-requires-clause-room : goal.compare_record-requires-clause-room
compare_record-requires-clause-room g c =
    let few = (rw c.in-Stepped.is at c.in-Ok.ensures.reaches).0.within_steps in
    let same = ap (λ (m : Meter). m.steps) c.loop-moved.invariant.lent.meter in
    omega (arith, few, same, c.show_accepted.ensures.accepted.steps, c.requires.room)

-- no memory to keep it
pub returns-in_err-verdict : goal.returns-in_err-verdict
returns-in_err-verdict g c =
    let here = c.loop-moved.invariant in
    let step = step_made g (goal.at.returns-in_err-verdict g c).After-update_fingerprint in
    let call = c.in_err-verdict.ensures in
    let fault = err_from_is_err_and c.from_residual.result c.from_residual.ensures.1 in
    rw fault.1 (runs_until_cut (lent_on c.advance.ensures.limit c.compare_record.ensures.right_limit
    c.compare_record.ensures.left_limit here.lent) (cut_after_step step.0.stands step.1 call.cut)
    (still_wide here.single_pass.wide step.0) call.memory)

pub returns-in-Some-2 : goal.returns-in-Some-2
returns-in-Some-2 g c =
    let here = c.loop-moved.invariant in
    let step = step_made g (goal.at.returns-in-Some-2 g c).After-update_fingerprint in
    let call = c.in_ok-verdict.ensures in
    let tells = tells_pair (taken_in g (goal.at.returns-in-Some-2 g c).After-widened_side) _ _ _ _ _
    c.in-Some-widened_side.is _ (rw c.in-Some-2.is at call.looks) in
    runs_and_finds (lent_on c.advance.ensures.limit call.right_limit call.left_limit
    (lent_uncounted call.uncounted here.lent))
    (not_stopped_at_record here.single_pass step.0 step.1 refl
    (current g (goal.at.returns-in-Some-2 g c).After-update_fingerprint)
    (λ same. both_ways _ c.if-are_as_kept.false (c.are_as_kept.ensures.1 same)) tells)
    (is_found here.search step.0 step.1
    (tells, rw c.in-Some-2.is at call.numbers, c.count_run-in-Some-2.ensures))

pub loop-moved-preserved : goal.loop-moved-preserved
loop-moved-preserved g c =
    let here = c.loop-moved.invariant in
    let step = step_made g (goal.at.loop-moved-preserved g c).After-update_fingerprint in
    let call = c.in_ok-verdict.ensures in
    record {
      search = goes_on here.search step.0 step.1
          (looks_at_one (taken_in g (goal.at.loop-moved-preserved g c).After-widened_side) _ _ _ _ _
          c.in-Some-widened_side.is (rw c.in-None.is at call.looks));
      single_pass = single_pass_on here.single_pass step.0 step.1 refl
          (current g (goal.at.loop-moved-preserved g c).After-update_fingerprint)
          (λ same. both_ways _ c.if-are_as_kept.false (c.are_as_kept.ensures.1 same)) c.keep_in_turn.ensures;
      lent = lent_on c.advance.ensures.limit call.right_limit call.left_limit
          (lent_uncounted call.uncounted here.lent);
    }
