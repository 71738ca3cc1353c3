-- Why the laws of runs hold.
use Rattle.std.proofs.Common.{◌≡◌, ◌≢◌, ℕ, zero, suc, ◌+◌, ◌-◌, ◌≤◌, ◌⊎◌, inl, inr, max, Option, Some, None}
use Rattle.std.proofs.Common.{ℤ, pos, ◌<ℤ◌, ◌≤ℤ◌, refl, ap, sym, subst, ◌∙◌, arith}
use Rattle.std.proofs.lemmas.Int.{ints, clamps, by_lt_z}
use Rattle.bb_machine.specs.declared.entry.Next.TheVariants.{State, Halt}
use Rattle.bb_machine.specs.Machine.{Table}
use Rattle.bb_tape.specs.Content.{score}
use Rattle.bb_sim.specs.declared.meter.Meter.{Meter}
use Rattle.bb_sim.specs.declared.simulation.Outcome.TheVariants.{Halt as Halted, NoSteps, NoCells}
use Rattle.bb_sim.specs.Configuration.{Configuration}
use Rattle.bb_sim.specs.Run.{conf, Exists, IsScore}
use Rattle.bb_sim.specs.Span.{counted_position, counted_head, least, greatest, span}
use Rattle.bb_sim.specs.Laws.{EarlierExists, HaltIsLast, HaltIsUnique, LastStepIsUnique, ScoreIsUnique}
use Rattle.bb_sim.specs.Laws.{OutcomeIsUnique, SpanGrows, EarlierIsInside, IsRunningAt, SpanIsReached}
use Rattle.bb_sim.specs.Laws.{CountIsWithin}
use Rattle.bb_sim.proofs.Positions.{least_last, greatest_last}
use Rattle.bb_sim.proofs.Standing.{counted_running}
use Rattle.bb_sim.proofs.Steps.{conf-start, counted_head-at}
use Rattle.bb_sim.proofs.Outcomes.{none_on, halt_is_last, span_grows, least_falls, greatest_rises}
use Rattle.bb_sim.proofs.Outcomes.{counted_head-none}

pub earlier_exists : EarlierExists
earlier_exists table m n few there = found (conf table m) refl where
  found : (at : Option Configuration) → conf table m ≡ at → Exists table m
  found (Some c) is = record { here = c; exists = is }
  found None is =
      let same : (n - m) + m ≡ n = omega (arith, few) in
      let gone = rw same at (none_on table m (n - m) is) in
      let exists = there.exists in
      cc

pub halt_is_last_one : HaltIsLast
halt_is_last_one table n m halts there = halt_is_last table n m there.here halts there.exists

pub halt_is_unique : HaltIsUnique
halt_is_unique table a b first second =
    omega (
      arith,
      halt_is_last table b a first.last second first.exists,
      halt_is_last table a b second.last first second.exists,
    )

pub last_step_is_unique : LastStepIsUnique
last_step_is_unique table bounds a b first second =
    omega (arith, second.greatest a first.inside, first.greatest b second.inside)

pub score_is_unique : ScoreIsUnique
score_is_unique table n a b first second =
    let same : first.here ≡ second.here = cc (first.exists, second.exists) in
    first.counted ∙ ap (λ (c : Configuration). score c.tape) same ∙ sym second.counted

pub outcome_is_unique : OutcomeIsUnique
outcome_is_unique table bounds (Halted n ones) (Halted m twos) first second =
    let steps = halt_is_unique table n m first.0.halts second.0.halts in
    let scores =
    score_is_unique table m ones twos (subst (λ k. IsScore table k ones) steps first.1) second.1 in
    cc
outcome_is_unique table bounds (Halted n ones) NoSteps first second = absurd (second.0 n first.0)
outcome_is_unique table bounds (Halted n ones) NoCells first second = absurd (second.0 n first.0)
outcome_is_unique table bounds NoSteps (Halted m twos) first second = absurd (first.0 m second.0)
outcome_is_unique table bounds NoSteps NoSteps first second = refl
outcome_is_unique table bounds NoSteps NoCells first second = absurd (omega (arith, first.1, second.1))
outcome_is_unique table bounds NoCells (Halted m twos) first second = absurd (first.0 m second.0)
outcome_is_unique table bounds NoCells NoSteps first second = absurd (omega (arith, first.1, second.1))
outcome_is_unique table bounds NoCells NoCells first second = refl

pub span_only_grows : SpanGrows
span_only_grows table m n few = span_grows table m n few

pub earlier_is_inside : EarlierIsInside
earlier_is_inside table bounds m n few inside =
    let there = earlier_exists table m n few (record { here = inside.here; exists = inside.exists }) in
    record {
      here = there.here;
      exists = there.exists;
      within_steps = omega (arith, inside.within_steps);
      within_cells = omega (arith, span_grows table m n few, inside.within_cells);
    }

pub count_is_within : CountIsWithin
count_is_within table bounds n old new inside counts =
    let made : new.steps ≡ old.steps + n = ap (λ (m : Meter). m.steps) counts in
    let seen : new.most_cells ≡ max old.most_cells (span table n) = ap (λ (m : Meter). m.most_cells) counts in
    record {
      steps = omega (arith, inside.within_steps);
      most_cells = omega (arith, inside.within_cells);
      nodes = ap (λ (m : Meter). m.nodes) counts;
      most_levels = ap (λ (m : Meter). m.most_levels) counts;
    }

-- ---- the ends of a span are reached

pub le_or_gt : (a b : ℤ) → (a ≤ℤ b) ⊎ (b <ℤ a)
le_or_gt a b = by_lt_z b a (λ less. inr less) (λ least. inl least)

-- a value of f up to n
record IsReached (f : ℕ → ℤ) (n : ℕ) (value : ℤ) : Type 0 where
  step : ℕ
  before : step ≤ n
  is : f step ≡ value

least_reached : (f : ℕ → ℤ) (n : ℕ) → IsReached f n (least f n)
least_reached f zero = record { step = 0; before = omega arith; is = refl }
least_reached f (suc n) = let old = least_reached f n in elim (le_or_gt (least f n) (f (suc n))) [
  | inl h ↦
      let is = old.is in
      record { step = old.step; before = omega (arith, old.before); is = omega (arith, ints, clamps) }
  | inr h ↦ record { step = suc n; before = omega arith; is = omega (arith, ints, clamps) }
]

greatest_reached : (f : ℕ → ℤ) (n : ℕ) → IsReached f n (greatest f n)
greatest_reached f zero = record { step = 0; before = omega arith; is = refl }
greatest_reached f (suc n) = let old = greatest_reached f n in elim (le_or_gt (f (suc n)) (greatest f n)) [
  | inl h ↦
      let is = old.is in
      record { step = old.step; before = omega (arith, old.before); is = omega (arith, ints, clamps) }
  | inr h ↦ record { step = suc n; before = omega arith; is = omega (arith, ints, clamps) }
]

-- a value of f up to n is not below the least nor above the greatest
pub least_bounds : (f : ℕ → ℤ) (m n : ℕ) → m ≤ n → least f n ≤ℤ f m
least_bounds f m n few =
    let same : (n - m) + m ≡ n = omega (arith, few) in
    subst (λ k. least f k ≤ℤ f m) same (omega (arith, ints, least_falls f m (n - m), least_last f m))

pub greatest_bounds : (f : ℕ → ℤ) (m n : ℕ) → m ≤ n → f m ≤ℤ greatest f n
greatest_bounds f m n few =
    let same : (n - m) + m ≡ n = omega (arith, few) in
    subst (λ k. f m ≤ℤ greatest f k) same (omega (arith, ints, greatest_rises f m (n - m), greatest_last f m))

-- a position that counts is reached at a step not in Z: at this one, or at step 0
record IsRunningBy (table : Table) (n : ℕ) (position : ℤ) : Type 0 where
  step : ℕ
  before : step ≤ n
  runs : IsRunningAt table step position

state_runs : (q : ℕ) → State q ≢ Halt
state_runs q = λ e. cc

start_runs : (table : Table) → IsRunningAt table 0 (pos 0)
start_runs table = record { here = _; exists = conf-start table; runs = state_runs 0; at = refl }

counted_runs : (table : Table) (n : ℕ) → IsRunningBy table n (counted_head table n)
counted_runs table n = by_conf (conf table n) refl where
  at_start : counted_head table n ≡ pos 0 → IsRunningBy table n (counted_head table n)
  at_start e =
      record {
        step = 0;
        before = omega arith;
        runs = subst (λ p. IsRunningAt table 0 p) (sym e) (start_runs table);
      }

  by_conf : (at : Option Configuration) → conf table n ≡ at → IsRunningBy table n (counted_head table n)
  by_conf None is = at_start (counted_head-none table n is)
  by_conf (Some c) is = by_state c.state refl where
    by_state : (state : _) → c.state ≡ state → IsRunningBy table n (counted_head table n)
    by_state (State q) e = record {
      step = n;
      before = omega arith;
      runs = record {
        here = c;
        exists = is;
        runs = λ h. state_runs q (sym e ∙ h);
        at = sym (counted_head-at table n c is ∙ ap (λ s. counted_position s c.head) e);
      };
    }
    by_state Halt e = at_start (counted_head-at table n c is ∙ ap (λ s. counted_position s c.head) e)

running_counts : (table : Table) (m : ℕ) (position : ℤ) → IsRunningAt table m position
    → counted_head table m ≡ position
running_counts table m position there = counted_head-at table m there.here there.exists
    ∙ counted_running there.here.state there.here.head there.runs ∙ there.at

pub span_is_reached : SpanIsReached
span_is_reached table n =
    let f = counted_head table in
    let low = least_reached f n in
    let high = greatest_reached f n in
    let low_there = counted_runs table low.step in
    let high_there = counted_runs table high.step in
    record {
      low_step = low_there.step;
      low_before = omega (arith, low.before, low_there.before);
      low = subst (λ p. IsRunningAt table low_there.step p) low.is low_there.runs;
      high_step = high_there.step;
      high_before = omega (arith, high.before, high_there.before);
      high = subst (λ p. IsRunningAt table high_there.step p) high.is high_there.runs;
      between = λ m position few there.
          let at = running_counts table m position there in
          (rw at at (least_bounds f m n few), rw at at (greatest_bounds f m n few));
    }
