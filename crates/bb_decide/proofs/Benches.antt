-- What a search was lent: a bench, whose tapes keep their room, and a meter.
use Rattle.std.proofs.Common.{◌≡◌, ℕ, refl, ◌∙◌}
use Rattle.bb_tape.specs.TapeView.{TapeView}
use Rattle.bb_sim.specs.declared.meter.Meter.{Meter}
use Rattle.bb_decide.specs.declared.bench.Bench.{Bench}
use Rattle.bb_decide.specs.Bench.{BenchHasCells}

-- while the run goes on, all but what the tapes hold is as it was
pub record IsAsLent {T : Type 0} (view : T → TapeView) (cells : ℕ) (old new : Bench T) (first here : Meter)
    : Type 0 where
  pub tapes : BenchHasCells view cells new
  pub path : new.path ≡ old.path
  pub meter : here ≡ first

pub lent_at_first : {T : Type 0} {view : T → TapeView} {cells : ℕ} {bench : Bench T} {meter : Meter}
    → BenchHasCells view cells bench → IsAsLent view cells bench bench meter meter
lent_at_first has = record { tapes = has; path = refl; meter = refl }

-- tapes were changed
pub lent_on : {T : Type 0} {view : T → TapeView} {cells : ℕ} {first old : Bench T} {run right left : T}
    {at_first here : Meter} → (view run).limit ≡ (view old.run).limit
    → (view right).limit ≡ (view old.right).limit → (view left).limit ≡ (view old.left).limit
    → IsAsLent view cells first old at_first here
    → IsAsLent view cells first (record { run = run; right = right; left = left; path = old.path }) at_first
    here
lent_on run right left had = record {
  tapes = record { run = run ∙ had.tapes.run; right = right ∙ had.tapes.right; left = left ∙ had.tapes.left };
  path = had.path;
  meter = had.meter;
}

-- and the meter left alone
pub lent_uncounted : {T : Type 0} {view : T → TapeView} {cells : ℕ} {first old : Bench T}
    {at_first here new : Meter} → new ≡ here → IsAsLent view cells first old at_first here
    → IsAsLent view cells first old at_first new
lent_uncounted same had = record { tapes = had.tapes; path = had.path; meter = same ∙ had.meter }
