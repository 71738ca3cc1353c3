-- A run inside the limits steps on.
use Rattle.std.proofs.Common.{◌≡◌, ℕ, ◌+◌, ◌<◌, Some, refl, ap, sym, subst, ◌∙◌, arith}
use Rattle.std.proofs.Common.{suc, pos, neg_ℤ, ◌≤ℤ◌, ◌-ℤ◌}
use Rattle.std.proofs.lemmas.Int.{ints}
use Rattle.bb_machine.specs.Limits.{Bounds}
use Rattle.bb_machine.specs.Machine.{Table}
use Rattle.bb_tape.specs.declared.tape.TheConstants.{MAX_CELLS}
use Rattle.bb_tape.specs.TapeView.{IsInside, TapeView}
use Rattle.bb_sim.specs.declared.runner.Moved.{Moved}
use Rattle.bb_sim.specs.declared.runner.Moved.TheVariants.{Halted, NoSteps, NoCells, Stepped}
use Rattle.bb_sim.specs.declared.runner.Runner.{Runner}
use Rattle.bb_sim.specs.Runner.{Answers, position_of, steps_of}
use Rattle.bb_sim.specs.Run.{Never}
use Rattle.bb_sim.proofs.Facts.{halts_in_Z, head_inside, span_grows, span_is_reached}
use Rattle.bb_cert.specs.records.Record.{head_at}
use Rattle.bb_cert.proofs.Facts.{head_at-is, runs_before, steps_of_never}
use Rattle.laws_of_recurrence.specs.Recurrence.{transition_at}
use Rattle.laws_of_recurrence.proofs.Facts.{transition_at-is}
use Rattle.bb_recurrence.specs.Lockstep.{IsAt, IsOpen, transition_here}

pub steps_on : (table : Table) (bounds : Bounds) (n last : ℕ) (moved : Moved) → IsOpen table bounds last
    → n < last → Answers table bounds n moved → moved ≡ Stepped
steps_on table bounds n last Stepped goes before answers = refl
steps_on table bounds n last Halted goes before answers = absurd (goes.never.never n answers)
steps_on table bounds n last NoSteps goes before answers =
    absurd (let few = goes.inside.within_steps in omega (arith, before, answers.1, few))
steps_on table bounds n last NoCells goes before answers =
    let grows = span_grows table (n + 1) last (omega (arith, before)) in
    absurd (let few = goes.inside.within_cells in omega (arith, answers.2, few, grows))

-- the next transition of a runner is that of its step
pub transition_of_runner : (table : Table) (bounds : Bounds) (n : ℕ) (runner : Runner) (view : TapeView)
    → IsAt table bounds n runner view → transition_at table n ≡ Some (transition_here runner view)
transition_of_runner table bounds n runner view at =
    ap (transition_at table) (sym at.steps) ∙ transition_at-is table _ _ at.stands.at

-- its head is in the window
pub inside_of : (table : Table) (bounds : Bounds) (n last : ℕ) (runner : Runner) (view : TapeView)
    → IsOpen table bounds last → IsAt table bounds n runner view → IsInside view (position_of runner)
inside_of table bounds n last runner view goes at =
    head_inside table runner view at.stands
    (λ halt. goes.never.never (steps_of runner) (halts_in_Z table runner view at.stands halt))

-- and it has come to that step
pub at_own : (table : Table) (bounds : Bounds) (n : ℕ) (runner : Runner) (view : TapeView)
    → IsAt table bounds n runner view → IsAt table bounds (steps_of runner) runner view
at_own table bounds n runner view at = record { stands = at.stands; steps = refl; limit = at.limit }

pub one_on : (table : Table) (bounds : Bounds) (n m : ℕ) (runner : Runner) (view : TapeView) → n ≡ m
    → IsAt table bounds n runner view → IsAt table bounds m runner view
one_on table bounds n m runner view same at = subst (λ k. IsAt table bounds k runner view) same at

-- it stands not too far out
pub small_head : (table : Table) (bounds : Bounds) (n : ℕ) (runner : Runner) (view : TapeView) → Never table
    → IsAt table bounds n runner view
    → (neg_ℤ (pos MAX_CELLS) ≤ℤ position_of runner) × (position_of runner ≤ℤ pos MAX_CELLS)
small_head table bounds n runner view never at =
    let m = steps_of runner in
    let runs = runs_before table m (suc m) (omega arith) (steps_of_never table never (suc m)) in
    let between = (span_is_reached table m).between m (head_at table m) (omega arith) runs in
    let here = head_at-is table m _ at.stands.at in
    let low = at.stands.low in
    let high = at.stands.high in
    let small = runner.low_small in
    let to_zero = runner.low_to_zero in
    let few = runner.few_cells in
    (omega (arith, ints, between.0, here, low, small), omega (arith, ints, between.1, here, high, to_zero, few))

-- how far one runner is from another
pub shift_is : (table : Table) (bounds : Bounds) (first period : ℕ) (old new : Runner) (view_old view_new : TapeView)
    → IsAt table bounds first old view_old → IsAt table bounds (first + period) new view_new
    → position_of new -ℤ position_of old ≡ head_at table (first + period) -ℤ head_at table first
shift_is table bounds first period old new view_old view_new at_first at_second =
    let a = head_at-is table _ _ at_first.stands.at in
    let b = head_at-is table _ _ at_second.stands.at in
    let c = ap (head_at table) at_first.steps in
    let d = ap (head_at table) at_second.steps in
    omega (arith, ints, a, b, c, d)
