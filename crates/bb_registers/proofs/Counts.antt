-- What a meter has counted of a run in registers.
use Rattle.std.proofs.Common.{◌≡◌, ℕ, ◌+◌, ◌-◌, refl, ap, sym, ◌∙◌, arith, max}
use Rattle.bb_machine.specs.Limits.{Bounds}
use Rattle.bb_machine.specs.Machine.{Table}
use Rattle.bb_tape.specs.TapeView.{TapeView}
use Rattle.bb_sim.specs.CellsBetween.{cells_between}
use Rattle.bb_sim.specs.declared.meter.Meter.{Meter}
use Rattle.bb_sim.specs.declared.runner.Runner.{Runner}
use Rattle.bb_sim.specs.declared.simulation.Outcome.{Outcome}
use Rattle.bb_sim.specs.Meter.{CountsTo, counted}
use Rattle.bb_sim.specs.Runner.{Stands, steps_of}
use Rattle.bb_sim.specs.Span.{counted_head, greatest, least, span}
use Rattle.bb_registers.specs.declared.run.RegisterRun.{RegisterRun}
use Rattle.bb_registers.specs.Registers.{EndsWith, IsRegisterRun, last_step}
use Rattle.bb_registers.proofs.Ending.{room_left}

module _ {table : Table} {bounds : Bounds} {run : RegisterRun} (known : IsRegisterRun table bounds run)
    (old : Meter) {new : Meter} where
  -- a run that goes on was counted up to where it stands
  pub counted_so_far : (n : ℕ) → n ≡ steps_of known.runner
      → new ≡ counted old run.steps (bounds.cells - run.room) → CountsTo table n old new
  counted_so_far n at is =
      let left = room_left known known.stands refl refl in
      let cells : bounds.cells - run.room ≡ span table (steps_of known.runner) = omega (arith, left) in
      is ∙ ap (λ m. counted old m (bounds.cells - run.room)) (known.steps_is ∙ sym at)
      ∙ ap (λ k. counted old n k) (cells ∙ ap (span table) (sym at))

  -- one that has ended was counted as a whole
  pub counted_at_end : (outcome : Outcome) (end : EndsWith known outcome)
      → new ≡ counted old (last_step run outcome) (bounds.cells - run.room) → CountsTo table (steps_of end.runner) old new
  counted_at_end outcome end is =
      let cells : bounds.cells - run.room ≡ span table (steps_of end.runner) = omega (arith, end.cells) in
      is ∙ ap (λ m. counted old m (bounds.cells - run.room)) end.made
      ∙ ap (λ k. counted old (steps_of end.runner) k) cells

-- steps that leave the window as it is
pub counted_inside : {table : Table} {old new : Runner} {view_old view_new : TapeView} (begun meter : Meter)
    (n : ℕ) → Stands table old view_old → Stands table new view_new → view_new.low ≡ view_old.low
    → view_new.high ≡ view_old.high → steps_of new ≡ steps_of old + n
    → CountsTo table (steps_of old) begun meter
    → CountsTo table (steps_of new) begun (record meter { steps = meter.steps + n })
counted_inside {table} {old} {new} begun meter n was stands same_low same_high made counts =
    let low : least (counted_head table) (steps_of new) ≡ least (counted_head table) (steps_of old) =
    sym (stands.window_low ∙ stands.low) ∙ same_low ∙ was.window_low ∙ was.low in
    let high : greatest (counted_head table) (steps_of new) ≡ greatest (counted_head table) (steps_of old) =
    sym (stands.window_high ∙ stands.high) ∙ same_high ∙ was.window_high ∙ was.high in
    let cells : span table (steps_of new) ≡ span table (steps_of old) =
    ap (λ p. cells_between p (greatest (counted_head table) (steps_of new))) low
    ∙ ap (λ p. cells_between (least (counted_head table) (steps_of old)) p) high in
    let before = ap (λ (m : Meter). m.steps) counts in
    let steps : meter.steps + n ≡ begun.steps + steps_of new = omega (arith, before, made) in
    let most : meter.most_cells ≡ max begun.most_cells (span table (steps_of new)) =
    ap (λ (m : Meter). m.most_cells) counts ∙ ap (λ k. max begun.most_cells k) (sym cells) in
    λ i. record {
      steps = steps i;
      most_cells = most i;
      nodes = (counts i).nodes;
      most_levels = (counts i).most_levels;
    }
