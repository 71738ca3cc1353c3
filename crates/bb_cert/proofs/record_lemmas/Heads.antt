-- Where the head stands on a side, step by step.
use Rattle.std.proofs.Common.{◌≡◌, ◌≢◌, ℕ, zero, suc, ◌+◌, ◌-◌, ◌<◌, ◌≤◌, inl, inr, Some, None, ℤ, ◌≤ℤ◌}
use Rattle.std.proofs.Common.{refl, ap, sym, subst, ◌∙◌, arith}
use Rattle.std.specs.Prelude.{◌<ℤ◌}
use Rattle.std.specs.Int.{int_min, int_max}
use Rattle.std.proofs.lemmas.Bool.{cases_lt}
use Rattle.std.proofs.lemmas.Int.{ints, clamps, by_lt_z}
use Rattle.bb_machine.specs.declared.entry.Next.TheVariants.{Halt}
use Rattle.bb_machine.specs.Machine.{Table}
use Rattle.bb_tape.specs.Content.{cell}
use Rattle.bb_sim.specs.Configuration.{Configuration, entry_at, followed, next}
use Rattle.bb_sim.specs.Laws.{IsRunningAt}
use Rattle.bb_sim.specs.Run.{Exists}
use Rattle.bb_sim.specs.Span.{counted_head, least, greatest}
use Rattle.bb_sim.proofs.Facts.{least-next, min-same, greatest-next, least_bounds, span_is_reached}
use Rattle.bb_cert.specs.declared.verdict.Side.{Side}
use Rattle.bb_cert.specs.declared.verdict.Side.TheVariants.{L, R}
use Rattle.bb_cert.specs.records.Record.{out, head_at, far}
use Rattle.bb_cert.proofs.record_lemmas.Positions.{head_at-is}
use Rattle.bb_tree.proofs.Facts.{earlier, moves}

-- as far out as one is
pub out-out : (side : Side) (p : ℤ) → out side (out side p) ≡ p
out-out L p = omega (arith, ints)
out-out R p = refl

-- in Z there is no next configuration
no_halt : (table : Table) (c d : Configuration) → next table c ≡ Some d → c.state ≢ Halt
unfolding next
no_halt table c d is halts =
    let none : next table c ≡ None = ap (λ s. followed (entry_at table s (cell c.tape c.head)) c) halts in cc

-- before a step there is, the head is at a configuration not in Z
pub runs_before : (table : Table) (m b : ℕ) → m < b → Exists table b → IsRunningAt table m (head_at table m)
runs_before table m b less there =
    let moved = moves table m (earlier table b (suc m) (omega (arith, less)) there) in
    record {
      here = moved.before;
      exists = moved.at_before;
      runs = no_halt table moved.before moved.then_here moved.is_next;
      at = sym (head_at-is table m moved.before moved.at_before);
    }

-- so it is in the window of the run, as is the head at this step where it isn't in Z
pub head_in_window : (table : Table) (m b : ℕ) → m ≤ b → IsRunningAt table m (head_at table m)
    → (least (counted_head table) b ≤ℤ head_at table m) × (head_at table m ≤ℤ greatest (counted_head table) b)
head_in_window table m b few runs = (span_is_reached table b).between m (head_at table m) few runs

pub runs_up_to : (table : Table) (m b : ℕ) → m ≤ b → IsRunningAt table b (head_at table b)
    → IsRunningAt table m (head_at table m)
runs_up_to table m b few runs = elim (cases_lt m b) [
  | inl less ↦ runs_before table m b less (record { here = runs.here; exists = runs.exists })
  | inr more ↦ let same : b ≡ m = omega (arith, few, more) in subst
      (λ k. IsRunningAt table k (head_at table k)) same runs
]

-- the window doesn't shrink
lower : (p q r : ℤ) → r ≡ int_min p q → r ≤ℤ p
lower p q r is = omega (arith, ints, clamps, is)

higher : (p q r : ℤ) → r ≡ int_max p q → p ≤ℤ r
higher p q r is = omega (arith, ints, clamps, is)

pub window_falls : (f : ℕ → ℤ) (n : ℕ) → least f (n + 1) ≤ℤ least f n
window_falls f n = lower _ _ _ (least-next f n)

pub window_rises : (f : ℕ → ℤ) (n : ℕ) → greatest f n ≤ℤ greatest f (n + 1)
window_rises f n = higher _ _ _ (greatest-next f n)

-- ---- how far out the head is at least

pub far-here : (table : Table) (side : Side) (a : ℕ) → far table side a a ≡ out side (head_at table a)
far-here table side a =
    let none : a - a ≡ 0 = omega arith in
    let here : 0 + a ≡ a = omega arith in
    ap (λ d. least (λ u. out side (head_at table (u + a))) d) none ∙ ap (λ k. out side (head_at table k)) here

pub far-next : (table : Table) (side : Side) (a n : ℕ) → a ≤ n
    → far table side a (n + 1) ≡ int_min (far table side a n) (out side (head_at table (n + 1)))
far-next table side a n few =
    let one : (n + 1) - a ≡ (n - a) + 1 = omega (arith, few) in
    let there : ((n - a) + 1) + a ≡ n + 1 = omega (arith, few) in
    ap (λ d. least (λ u. out side (head_at table (u + a))) d) one
    ∙ least-next (λ u. out side (head_at table (u + a))) (n - a)
    ∙ ap (λ k. int_min (least (λ u. out side (head_at table (u + a))) (n - a))
    (out side (head_at table k))) there

pub far_bounds : (table : Table) (side : Side) (a n : ℕ) → a ≤ n
    → far table side a n ≤ℤ out side (head_at table a)
far_bounds table side a n few =
    let here : 0 + a ≡ a = omega arith in
    subst (λ k. far table side a n ≤ℤ out side (head_at table k)) here
    (least_bounds (λ u. out side (head_at table (u + a))) 0 (n - a) (omega arith))

-- the least of f up to n is one of them
pub record IsLeastAt (f : ℕ → ℤ) (n : ℕ) : Type 0 where
  pub step : ℕ
  pub no_later : step ≤ n
  pub is : least f n ≡ f step

least_right : (p q : ℤ) → q <ℤ p → int_min p q ≡ q
least_right p q h = omega (arith, ints, clamps, h)

least_is_reached : (f : ℕ → ℤ) (n : ℕ) → IsLeastAt f n
least_is_reached f zero = record { step = 0; no_later = omega arith; is = refl }
least_is_reached f (suc n) =
    let old = least_is_reached f n in
    by_lt_z (f (suc n)) (least f n)
    (λ less. record { step = suc n; no_later = omega arith; is = least_right (least f n) (f (suc n)) less })
    (λ more. record {
      step = old.step;
      no_later = let few = old.no_later in omega (arith, few);
      is = min-same (least f n) (f (suc n)) more ∙ old.is;
    })

-- and the head stood there
pub record IsFarAt (table : Table) (side : Side) (a n : ℕ) : Type 0 where
  pub step : ℕ
  pub no_later : step ≤ n
  pub is : far table side a n ≡ out side (head_at table step)

pub far_is_reached : (table : Table) (side : Side) (a n : ℕ) → a ≤ n → IsFarAt table side a n
far_is_reached table side a n few =
    let at = least_is_reached (λ u. out side (head_at table (u + a))) (n - a) in
    let no_later = at.no_later in
    record { step = at.step + a; no_later = omega (arith, few, no_later); is = at.is }
