-- What a run has counted, step by step, and what is known where it stops.
use Rattle.std.proofs.Common.{◌≡◌, ℕ, ◌+◌, ◌≤◌, max, ap, ◌∙◌, arith}
use Rattle.bb_machine.specs.Limits.{Bounds}
use Rattle.bb_machine.specs.Machine.{Table}
use Rattle.bb_tape.specs.Content.{Content}
use Rattle.bb_tape.specs.TapeView.{TapeView}
use Rattle.bb_sim.specs.declared.meter.Meter.{Meter}
use Rattle.bb_sim.specs.declared.runner.Runner.{Runner}
use Rattle.bb_sim.specs.declared.runner.Moved.{Moved}
use Rattle.bb_sim.specs.declared.runner.Moved.TheVariants.{Stepped}
use Rattle.bb_sim.specs.Span.{span, Inside}
use Rattle.bb_sim.specs.Meter.{stepped, CountsPart, CountsTo}
use Rattle.bb_sim.specs.Runner.{Moves, Reaches, Stands, position_of, state_of, steps_of}
use Rattle.bb_sim.proofs.Outcomes.{counted-start, counted-next, span_grows}

-- a run that has not stepped has counted the first cell
pub counts_start : (table : Table) (old new : Meter) → new ≡ record old { most_cells = max old.most_cells 1 }
    → CountsTo table 0 old new
counts_start table old new is = is ∙ counted-start old table

-- one step more
pub counts_next : (table : Table) (n : ℕ) (old : Meter) {now next : Meter} → CountsTo table n old now
    → next ≡ stepped now (span table (n + 1)) → CountsTo table (n + 1) old next
counts_next table n old counts is =
    is ∙ ap (λ m. stepped m (span table (n + 1))) counts
    ∙ counted-next old n (span table n) (span table (n + 1)) (span_grows table n (n + 1) (omega arith))

-- a runner stands within bounds, and the run up to it was counted
pub record RunsWithin (table : Table) (bounds : Bounds) (runner : Runner) (view : TapeView)
    (first meter : Meter) : Type 0 where
  pub stands : Stands table runner view
  pub steps : steps_of runner ≤ bounds.steps
  pub counts : CountsTo table (steps_of runner) first meter

-- and so it does after a step
pub has_stepped : {table : Table} {bounds : Bounds} {old new : Runner} {view_old view_new : TapeView}
    {first meter_old : Meter} {moved : Moved} → RunsWithin table bounds old view_old first meter_old
    → Stands table new view_new → (meter : Meter) → Reaches table bounds new view_new moved
    → Moves table old new view_old view_new meter_old meter moved → moved ≡ Stepped
    → RunsWithin table bounds new view_new first meter
has_stepped {table} {bounds} {old} {new} {view_old} {view_new} {first} run stands meter reaches moves is =
    let inside = (rw is at reaches).0 in
    let step = rw is at moves in
    record {
      stands = stands;
      steps = inside.within_steps;
      counts = rw step.0 (counts_next table (steps_of old) first run.counts step.1);
    }

-- a run that is refused memory for a step, with a tape of the same cells, was counted up to there
pub cut_here : {table : Table} {bounds : Bounds} {runner : Runner} {view : TapeView} {first meter : Meter}
    → RunsWithin table bounds runner view first meter → Inside table bounds (steps_of runner)
    → {tape : Content} → tape ≡ view.content → {new : Meter} → new ≡ meter
    → CountsPart table bounds tape first new
cut_here {table} {bounds} {runner} {view} {first} run inside kept {new} uncounted =
    let counts : CountsTo table (steps_of runner) first new = uncounted ∙ run.counts in
    let cells : new.most_cells ≡ max first.most_cells (span table (steps_of runner)) =
    ap (λ (m : Meter). m.most_cells) counts in
    let grows = span_grows table (steps_of runner) (steps_of runner + 1) (omega arith) in
    record {
      at = steps_of runner;
      inside = record {
        here = record { state = state_of runner; head = position_of runner; tape = view.content };
        exists = run.stands.at;
        within_steps = inside.within_steps;
        within_cells = inside.within_cells;
      };
      on_tape = kept;
      steps = ap (λ (m : Meter). m.steps) counts;
      cells = omega (arith, cells);
      few_cells = omega (arith, cells, grows);
    }
