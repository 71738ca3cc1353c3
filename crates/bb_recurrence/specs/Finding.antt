-- The result for a verdict: this project's own.
use Rattle.std.specs.Prelude.{◌≡◌, ◌≢◌, ℕ, ◌+◌, ◌<◌, ◌≤◌}
use Rattle.bb_machine.specs.Limits.{Bounds}
use Rattle.bb_machine.specs.Machine.{Table}
use Rattle.bb_sim.specs.declared.meter.Meter.{Meter}
use Rattle.bb_sim.specs.Meter.{zero_meter}
use Rattle.bb_cert.specs.declared.checker.answer.Answer.TheVariants.{Ok}
use Rattle.bb_cert.specs.declared.verdict.Verdict.{Verdict}
use Rattle.bb_cert.specs.declared.verdict.Verdict.TheVariants.{Halt, Cycler, Translated, Backward, Undecided}
use Rattle.bb_cert.specs.checker.Answer.{IsAnswer}
use Rattle.bb_cert.specs.checker.ClaimMeter.{CountsCheck, CountsWindow, IsWithinClaim}
use Rattle.laws_of_recurrence.specs.Recurrence.{RepeatsExactly}
use Rattle.laws_of_recurrence.specs.Shift.{IsShift}
use Rattle.bb_recurrence.specs.declared.recurrence.Recurrence.{Recurrence}
use Rattle.bb_recurrence.specs.declared.verdict.Finding.{Finding}
use Rattle.bb_recurrence.specs.declared.verdict.Finding.TheVariants.{Answered, NoPair, Recurs}
use Rattle.bb_recurrence.specs.declared.uses.LastUses.{LastUses}
use Rattle.bb_recurrence.specs.LastUses.{AreSeen}
use Rattle.bb_recurrence.specs.Recurrence.{CountsLong}

-- the verdict is a pair of these steps
abbrev pub NamesPair : Verdict → ℕ → ℕ → Type 0
NamesPair (Halt steps score) a b = ⊥
NamesPair (Cycler first second) a b = (first ≡ a) × (second ≡ b)
NamesPair (Translated side first second extent) a b = (first ≡ a) × (second ≡ b)
NamesPair (Backward levels nodes) a b = ⊥
NamesPair (Undecided why) a b = ⊥

-- it is a pair
abbrev pub IsPair : Verdict → Type 0
IsPair verdict = (first : ℕ) × (second : ℕ) × NamesPair verdict first second

-- it is none
abbrev pub NamesNone : Verdict → Type 0
NamesNone verdict = (a b : ℕ) → NamesPair verdict a b → ⊥

-- the verdict is a pair, and the run repeats exactly like this; the last uses are those before the second
-- step of the pair, and a first whole period comes before it
pub record IsRecurrence (table : Table) (verdict : Verdict) (last_uses : LastUses) (found : Recurrence)
    : Type 0 where
  pub first : ℕ
  pub second : ℕ
  pub names : NamesPair verdict first second
  pub early : found.start ≤ first
  pub whole : found.start + found.period ≤ second
  pub exact : RepeatsExactly table found.start found.period
  pub shift : IsShift table found.start found.period found.shift
  pub uses : AreSeen table second last_uses

-- the exact recurrence of a confirmed pair; else the checker's answer to it; or no pair is named
abbrev pub IsFinding : Table → Bounds → Verdict → LastUses → Finding → Type 0
IsFinding table bounds verdict uses (Recurs found) =
    IsAnswer table bounds verdict Ok × IsRecurrence table verdict uses found
IsFinding table bounds verdict uses (Answered answer) =
    (answer ≢ Ok) × IsAnswer table bounds verdict answer × IsPair verdict
IsFinding table bounds verdict uses NoPair = NamesNone verdict

-- the cost of a recurrence: the second step for the check, which a run of at most 4,096 steps is recorded in;
-- a longer one takes then what its recurrence takes
pub record CountsPair (table : Table) (bounds : Bounds) (verdict : Verdict) (period : ℕ) (meter : Meter)
    : Type 0 where
  pub first : ℕ
  pub second : ℕ
  pub names : NamesPair verdict first second
  pub recorded : second ≤ 4096 → meter.steps ≡ second
  pub long : 4096 < second → CountsLong first second period second meter.steps
  pub window : CountsWindow table bounds verdict meter.most_cells
  pub no_levels : meter.most_levels ≡ 0
  pub no_nodes : meter.nodes ≡ 0

-- the cost of a pair that isn't confirmed: that of its check
pub record CountsAnswer (table : Table) (bounds : Bounds) (verdict : Verdict) (meter : Meter) : Type 0 where
  pub within : IsWithinClaim bounds verdict meter
  pub checked : CountsCheck table bounds verdict meter
  pub window : CountsWindow table bounds verdict meter.most_cells

-- the cost of a result
abbrev pub CountsFinding : Table → Bounds → Verdict → Meter → Finding → Type 0
CountsFinding table bounds verdict meter (Recurs found) = CountsPair table bounds verdict found.period meter
CountsFinding table bounds verdict meter (Answered answer) = CountsAnswer table bounds verdict meter
CountsFinding table bounds verdict meter NoPair = meter ≡ zero_meter
