use Rattle.std.proofs.Common.{arith, refl}
use Rattle.bb_sim.specs.declared.runner.Moved.TheVariants.{Halted, Stepped}
use Rattle.bb_decide.proofs.Counted.{cut_at_step, few_steps, has_moved}
use Rattle.bb_decide.proofs.SearchResults.{ends_into_Z, ends_where_stopped, step_goes_on, step_is_cut, stopped_on}
use Rattle.bb_decide.proofs.Halting.{in_no_state, not_in_Z}
use Rattle.bb_decide.proofs.search_result.step_on.Goals as goal

pub count_run-requires-in_default-moved : goal.count_run-requires-in_default-moved
count_run-requires-in_default-moved g c =
    let few = few_steps c.args.machine.now c.args.limits.now c.advance.new.self
    (g.T.Tape.view c.advance.new.tape) _ c.in-Ok.ensures.reaches in
    omega (arith, few, c.show_accepted.ensures.accepted.steps, c.requires.room)

pub returns-in_default-moved : goal.returns-in_default-moved
returns-in_default-moved g c =
    let call = c.in-Ok.ensures in
    step_goes_on c.advance.ensures.limit _ (stopped_on (ends_where_stopped call.stands
    c.count_run-in_default-moved.ensures _ _ _ _ c.in_default-moved.not-Stepped call.answers call.reaches
    call.moves) c.in_default-moved.not-Stepped)

-- no memory for a step
pub returns-in_default : goal.returns-in_default
returns-in_default g c =
    let call = c.in_default.ensures in
    step_is_cut c.advance.ensures.limit
    (cut_at_step c.args.runner.now c.advance.new.self c.requires.stands c.advance.ensures.before call.wanted
    call.unmade call.window call.unwritten c.count_run.ensures) call.memory

-- a step into Z ends the run
pub returns-in_default-state : goal.returns-in_default-state
returns-in_default-state g c =
    let call = c.in-Ok.ensures in
    let halts = in_no_state _ _ c.state.ensures c.in_default-state.not-Some in
    step_goes_on c.advance.ensures.limit Halted (ends_into_Z call.stands c.count_run-in_default-state.ensures
    halts (rw c.in-Stepped.is at call.reaches).0 (rw c.in-Stepped.is at call.moves).0)

pub returns : goal.returns
returns g c =
    let call = c.in-Ok.ensures in
    let step = has_moved c.requires.stands call.stands _ _ _ c.in-Stepped.is call.reaches call.moves
    (not_in_Z c.in-Some.ensures) in
    let most = c.show_accepted.ensures.accepted.steps in
    step_goes_on c.advance.ensures.limit Stepped
    (step.0, step.1, refl, omega (arith, step.1.within_steps, most, c.requires.room))
