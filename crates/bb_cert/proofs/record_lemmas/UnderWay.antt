-- How the run of a claim begins, goes on and ends.
use Rattle.std.proofs.Common.{◌≡◌, ℕ, ◌<◌, ◌≤◌, max, ap, sym, subst, ◌∙◌, arith}
use Rattle.bb_machine.specs.Limits.{Bounds}
use Rattle.bb_machine.specs.Machine.{Table}
use Rattle.bb_tape.specs.TapeView.{TapeView}
use Rattle.bb_sim.specs.declared.meter.Meter.{Meter}
use Rattle.bb_sim.specs.declared.runner.Runner.{Runner}
use Rattle.bb_sim.specs.Meter.{CountsRun, CountsTo, IsWithinRun, zero_meter}
use Rattle.bb_sim.specs.Run.{HaltsAt}
use Rattle.bb_sim.specs.Runner.{Stands, Stays, steps_of}
use Rattle.bb_sim.specs.Span.{Inside, IsLastInside, span}
use Rattle.bb_sim.proofs.Facts.{count_is_within, counts_start, fits_at_halt, halt_is_last, span-start}
use Rattle.bb_cert.specs.declared.checker.answer.Answer.TheVariants as answer
use Rattle.bb_cert.specs.inside.Checks.{IsCut, IsUnderWay}

pub begins : (table : Table) (bounds : Bounds) (runner : Runner) (view : TapeView) (old new : Meter)
    → Stands table runner view → steps_of runner ≡ 0 → view.limit ≡ bounds.cells → 1 ≤ bounds.cells
    → old ≡ zero_meter → new ≡ record old { most_cells = max old.most_cells 1 }
    → IsUnderWay table bounds runner view new
begins table bounds runner view old new stands zeroth limit some first is = record {
  stands = stands;
  inside = record {
    here = _;
    exists = stands.at;
    within_steps = rw zeroth
        (omega arith);
    within_cells = fits;
  };
  limit = limit;
  counts = subst (λ n. CountsTo table n zero_meter new) (sym zeroth)
      (subst (λ m. CountsTo table 0 m new) first (counts_start table old new is));
} where
  one : span table 0 ≡ 1
  one = span-start table

  fits : span table (steps_of runner) ≤ bounds.cells
  fits = subst (λ n. span table n ≤ bounds.cells) (sym zeroth) (omega (arith, one, some))

-- no more was counted than the run
pub under_way_within : {table : Table} {bounds : Bounds} {runner : Runner} {view : TapeView} {meter : Meter}
    → IsUnderWay table bounds runner view meter → IsWithinRun bounds zero_meter meter
under_way_within {table} {bounds} {runner} {meter = meter} is =
    count_is_within table bounds (steps_of runner) zero_meter meter is.inside is.counts

-- a run that halts before the limit of steps can't come there
pub cut_by_halt : {table : Table} {bounds : Bounds} {n : ℕ} → Inside table bounds n → HaltsAt table n
    → n < bounds.steps → IsCut table bounds answer.Bad
cut_by_halt {table} {bounds} {n} inside halts before = (
  λ there. let few = halt_is_last table n bounds.steps there.here halts there.exists in omega
      (arith, few, before),
  fits_at_halt table bounds n inside halts,
)

-- a run that ends where a call of `advance` doesn't step was counted whole
pub counts_whole : {table : Table} {bounds : Bounds} {old new : Runner} {view view_new : TapeView}
    {meter_old meter : Meter} → IsUnderWay table bounds old view meter_old
    → IsLastInside table bounds (steps_of new) → Stays old new view view_new meter_old meter
    → CountsRun table bounds zero_meter meter
counts_whole {old = old} {new = new} is last stays =
    let same : steps_of new ≡ steps_of old = ap steps_of stays.runner in
    record { last = steps_of old; is_last = rw same at last; counts = stays.meter ∙ is.counts }
