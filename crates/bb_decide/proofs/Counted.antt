-- What a run has counted, where the runner counts and a meter takes it over at the end.
use Rattle.std.proofs.Common.{◌≡◌, ◌≢◌, ℕ, ◌+◌, ◌≤◌, max, ap, ◌∙◌, arith, refl}
use Rattle.bb_machine.specs.Limits.{Bounds}
use Rattle.bb_machine.specs.Machine.{Table}
use Rattle.bb_tape.specs.Content.{Content}
use Rattle.bb_tape.specs.TapeView.{TapeView}
use Rattle.bb_sim.specs.declared.meter.Meter.{Meter}
use Rattle.bb_sim.specs.declared.runner.Moved.{Moved}
use Rattle.bb_sim.specs.declared.runner.Moved.TheVariants.{Stepped}
use Rattle.bb_sim.specs.declared.runner.Runner.{Runner}
use Rattle.bb_sim.specs.CellsBetween.{cells_between}
use Rattle.bb_sim.specs.Meter.{CountsPart, CountsTo, IsWithinRun, counted}
use Rattle.bb_sim.specs.Runner.{Answers, Moves, Reaches, Stands, high_of, low_of, position_of, state_of}
use Rattle.bb_sim.specs.Runner.{steps_of}
use Rattle.bb_sim.specs.Span.{counted_head, least, span, Inside}
use Rattle.bb_sim.proofs.Facts.{count_is_within, span_grows}
use Rattle.bb_machine.specs.declared.entry.Next.TheVariants.{Halt}
use Rattle.bb_decide.specs.inside.Step.{HasMoved, TakesOver}

-- the meter that takes the run over
pub taken_over : {table : Table} {runner : Runner} {view : TapeView} → Stands table runner view
    → (first : Meter) {new : Meter} → TakesOver runner first new → CountsTo table (steps_of runner) first new
taken_over {table} {runner} stands first is =
    let low = ap (λ p. cells_between p (high_of runner)) stands.low in
    let high = ap (λ p. cells_between (least (counted_head table) (steps_of runner)) p) stands.high in
    is ∙ ap (λ n. counted first (steps_of runner) n) (low ∙ high)

-- wherever a call of `advance` leaves a runner, its steps are within bounds
pub few_steps : (table : Table) (bounds : Bounds) (runner : Runner) (view : TapeView) (moved : Moved)
    → Reaches table bounds runner view moved → steps_of runner ≤ bounds.steps
few_steps table bounds runner view Stepped reaches = reaches.0.within_steps
few_steps table bounds runner view moved last = last.inside.within_steps

-- the step inside where a runner stands, with the configuration that its tape shows
abbrev inside_where : {table : Table} {bounds : Bounds} {runner : Runner} {view : TapeView}
    → Stands table runner view → Inside table bounds (steps_of runner) → Inside table bounds (steps_of runner)
inside_where {runner = runner} {view = view} stands inside = record {
  here = record { state = state_of runner; head = position_of runner; tape = view.content };
  exists = stands.at;
  within_steps = inside.within_steps;
  within_cells = inside.within_cells;
}

-- a run that was refused memory was counted up to step n, where it stands, within bounds
pub record HasCut (table : Table) (bounds : Bounds) (n : ℕ) (tape : Content) (first meter : Meter) : Type 0
  where
    pub part : CountsPart table bounds tape first meter
    pub at : part.at ≡ n
    pub within : IsWithinRun bounds first meter

-- in a step that was to be made, for which the window was widened
pub cut_at_step : {table : Table} {bounds : Bounds} {first meter : Meter} (old new : Runner)
    {view : TapeView} → Stands table old view
    → Inside table bounds (steps_of old) → Answers table bounds (steps_of old) Stepped
    → steps_of new ≡ steps_of old
    → cells_between (low_of new) (high_of new) ≡ span table (steps_of old + 1)
    → {tape : Content} → tape ≡ view.content → TakesOver new first meter
    → HasCut table bounds (steps_of old) tape first meter
cut_at_step {table} {bounds} {first} {meter} old new stands inside wanted unmade window kept is =
    let counts : meter ≡ counted first (steps_of old) (span table (steps_of old + 1)) =
    is ∙ ap (λ n. counted first n (cells_between (low_of new) (high_of new))) unmade
    ∙ ap (counted first (steps_of old)) window in
    let steps : meter.steps ≡ first.steps + steps_of old = ap (λ (m : Meter). m.steps) counts in
    let cells : meter.most_cells ≡ max first.most_cells (span table (steps_of old + 1)) =
    ap (λ (m : Meter). m.most_cells) counts in
    let grows = span_grows table (steps_of old) (steps_of old + 1) (omega arith) in
    record {
      part = record {
        at = steps_of old;
        inside = inside_where stands inside;
        on_tape = kept;
        steps = steps;
        cells = omega arith;
        few_cells = omega (arith, cells);
      };
      at = refl;
      within = record {
        steps = omega (arith, steps, inside.within_steps);
        most_cells = omega (arith, cells, wanted.2);
        nodes = ap (λ (m : Meter). m.nodes) counts;
        most_levels = ap (λ (m : Meter). m.most_levels) counts;
      };
    }

-- after a step that was made
pub cut_after_step : {table : Table} {bounds : Bounds} {runner : Runner} {view : TapeView}
    {first meter : Meter} → Stands table runner view → Inside table bounds (steps_of runner)
    → TakesOver runner first meter → HasCut table bounds (steps_of runner) view.content first meter
cut_after_step {table} {bounds} {runner} {first = first} {meter = meter} stands inside is =
    let counts = taken_over stands first is in
    let cells : meter.most_cells ≡ max first.most_cells (span table (steps_of runner)) =
    ap (λ (m : Meter). m.most_cells) counts in
    record {
      part = record {
        at = steps_of runner;
        inside = inside_where stands inside;
        on_tape = refl;
        steps = ap (λ (m : Meter). m.steps) counts;
        cells = omega (arith, cells);
        few_cells =
            let grows = span_grows table (steps_of runner) (steps_of runner + 1) (omega arith) in
            omega (arith, cells, grows);
      };
      at = refl;
      within = count_is_within table bounds (steps_of runner) first meter inside counts;
    }

-- what a call of `advance` says of a step that didn't lead into Z
pub has_moved : {table : Table} {bounds : Bounds} {old new : Runner} {view_old view : TapeView}
    → Stands table old view_old → Stands table new view → (other_old other : Meter) (moved : Moved)
    → moved ≡ Stepped → Reaches table bounds new view moved
    → Moves table old new view_old view other_old other moved → state_of new ≢ Halt
    → HasMoved table old new view × Inside table bounds (steps_of new)
has_moved stood stands _ _ _ is reaches moves running =
    let reaches_here = rw is at reaches in
    let made = rw is at moves in (
      record { view_before = _; stood = stood; stands = stands; next = made.0; running = running },
      reaches_here.0,
    )
