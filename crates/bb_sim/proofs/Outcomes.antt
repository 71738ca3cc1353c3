-- What the end of a run within limits says of all its steps.
use Rattle.std.proofs.Common.{◌≡◌, ◌≢◌, ℕ, zero, suc, ◌+◌, ◌-◌, ◌<◌, ◌≤◌, max, Option, Some, None}
use Rattle.std.proofs.Common.{option_and_then, inl, inr, ℤ, ◌≤ℤ◌, pos, refl, ap, subst, ◌∙◌, add-one, arith}
use Rattle.std.proofs.lemmas.Bool.{cases_lt}
use Rattle.std.proofs.lemmas.Int.{ints, clamps}
use Rattle.bb_tape.specs.Content.{score}
use Rattle.bb_tape.specs.TapeView.{TapeView, IsSound}
use Rattle.bb_sim.specs.declared.runner.Runner.{Runner}
use Rattle.bb_sim.specs.declared.meter.Meter.{Meter}
use Rattle.bb_machine.specs.Limits.{Bounds}
use Rattle.bb_machine.specs.Machine.{Table}
use Rattle.bb_sim.specs.Configuration.{Configuration, start, next}
use Rattle.bb_sim.specs.Run.{after, conf, HaltsAt, IsScore}
use Rattle.bb_sim.specs.CellsBetween.{cells_between}
use Rattle.bb_sim.specs.Span.{counted_position_in, counted_head, least, greatest, span, Inside, IsLastInside}
use Rattle.bb_sim.specs.Meter.{stepped, counted}
use Rattle.bb_sim.specs.Outcome.{HaltsInside}
use Rattle.bb_sim.specs.Runner.{Stands}
use Rattle.bb_sim.proofs.Positions.{least_last, greatest_last, cells_between-is, cells_between_wider}
use Rattle.bb_sim.proofs.Positions.{min-same, max-same}
use Rattle.bb_sim.proofs.Steps.{counted_head-start}

-- from a step that doesn't exist on, none does
pub none_on : (table : Table) (n k : ℕ) → conf table n ≡ None → conf table (k + n) ≡ None
unfolding conf
none_on table n zero e = let same : zero + n ≡ n = omega arith in rw same e
none_on table n (suc k) e =
    let before : after table start (k + n) ≡ None = none_on table n k e in
    let same : suc k + n ≡ suc (k + n) = omega arith in
    rw same (ap (option_and_then (next table)) before)

halt_next : (table : Table) (n : ℕ) → HaltsAt table n → conf table (suc n) ≡ None
unfolding conf
halt_next table n halts = ap (option_and_then (next table)) halts.exists ∙ halts.no_next

-- a halt is at the last step that exists
pub halt_is_last : (table : Table) (n m : ℕ) (c : Configuration) → HaltsAt table n
    → conf table m ≡ Some c → m ≤ n
halt_is_last table n m c halts exists =
    elim (cases_lt n m) [
      | inl beyond ↦
          let same : (m - suc n) + suc n ≡ m = omega (arith, beyond) in
          let none = rw same at (none_on table (suc n) (m - suc n) (halt_next table n halts)) in
          absurd cc
      | inr few ↦ few
    ]

pub least_falls : (f : ℕ → ℤ) (n k : ℕ) → least f (k + n) ≤ℤ least f n
least_falls f n zero = let e : zero + n ≡ n = omega arith in rw e (omega (arith, ints))
least_falls f n (suc k) =
    let e : suc k + n ≡ suc (k + n) = omega arith in
    rw e (omega (arith, ints, clamps, least_falls f n k))

pub greatest_rises : (f : ℕ → ℤ) (n k : ℕ) → greatest f n ≤ℤ greatest f (k + n)
greatest_rises f n zero = let e : zero + n ≡ n = omega arith in rw e (omega (arith, ints))
greatest_rises f n (suc k) =
    let e : suc k + n ≡ suc (k + n) = omega arith in
    rw e (omega (arith, ints, clamps, greatest_rises f n k))

ends_in_order : (f : ℕ → ℤ) (n : ℕ) → least f n ≤ℤ greatest f n
ends_in_order f n = omega (arith, ints, least_last f n, greatest_last f n)

-- the span only grows
pub span_grows : (table : Table) (m n : ℕ) → m ≤ n → span table m ≤ span table n
span_grows table m n h =
    let e : (n - m) + m ≡ n = omega arith in
    let low = least_falls (counted_head table) m (n - m) in
    let high = greatest_rises (counted_head table) m (n - m) in
    subst (λ k. span table m ≤ span table k) e
    (cells_between_wider _ _ _ _ (ends_in_order (counted_head table) m) low high)

pub span-start : (table : Table) → span table 0 ≡ 1
span-start table = rw counted_head-start refl

pub counted_head-none : (table : Table) (n : ℕ) → conf table n ≡ None → counted_head table n ≡ pos 0
unfolding counted_head
counted_head-none table n e = ap counted_position_in e

-- a halted machine's head takes in no more positions
ends_halted : (table : Table) (n k : ℕ) → HaltsAt table n
    → (least (counted_head table) (k + n) ≡ least (counted_head table) n)
    × (greatest (counted_head table) (k + n) ≡ greatest (counted_head table) n)
ends_halted table n zero halts = let e : zero + n ≡ n = omega arith in (rw e refl, rw e refl)
ends_halted table n (suc k) halts =
    let before = ends_halted table n k halts in
    let e : suc k + n ≡ suc (k + n) = omega arith in
    let d : k + suc n ≡ suc (k + n) = omega arith in
    let here =
    counted_head-none table (suc (k + n)) (rw d at (none_on table (suc n) k (halt_next table n halts))) in
    let same : (k + n) + 0 ≡ k + n = omega arith in
    let zeroth = counted_head-start table in
    let low = rw (same, zeroth) at (least_falls (counted_head table) 0 (k + n)) in
    let high = rw (same, zeroth) at (greatest_rises (counted_head table) 0 (k + n)) in
    (rw (e, here) (min-same _ _ low ∙ before.0), rw (e, here) (max-same _ _ high ∙ before.1))

-- the span of a halt stays
pub span_halted : (table : Table) (n m : ℕ) → HaltsAt table n → n ≤ m → span table m ≡ span table n
span_halted table n m halts h =
    let ends = ends_halted table n (m - n) halts in
    let e : (m - n) + n ≡ m = omega (arith, h) in
    subst (λ k. span table k ≡ span table n) e (rw (ends.0, ends.1) refl)

-- a runner's tape has room for the span
pub span_fits : (table : Table) (runner : Runner) (view : TapeView) → Stands table runner view → IsSound view
    → span table runner.steps ≤ view.limit
span_fits table runner view stands sound =
    let n = cells_between-is view.low view.high (omega (arith, ints)) in
    let e : span table runner.steps ≡ cells_between view.low view.high =
    rw (stands.window_low ∙ stands.low, stands.window_high ∙ stands.high) refl in
    omega (arith, ints, e)

pub inside_here : (table : Table) (runner : Runner) (view : TapeView) (bounds : Bounds)
    → Stands table runner view → IsSound view → view.limit ≡ bounds.cells → runner.steps ≤ bounds.steps
    → Inside table bounds runner.steps
inside_here table runner view bounds stands sound limit few = record {
  here = _;
  exists = stands.at;
  within_steps = few;
  within_cells = let fits = span_fits table runner view stands sound in omega (arith, fits, limit);
}

-- where the run doesn't halt, there is a next configuration
next_exists : (table : Table) (n : ℕ) (c : Configuration) → conf table n ≡ Some c → (HaltsAt table n → ⊥)
    → (there : Option Configuration) → next table c ≡ there
    → (d : Configuration) × (conf table (n + 1) ≡ Some d)
unfolding conf
next_exists table n c at goes None is = absurd (goes (record { last = c; exists = at; no_next = is }))
next_exists table n c at goes (Some d) is = (d, rw add-one (ap (option_and_then (next table)) at ∙ is))

module _ (table : Table) (bounds : Bounds) (n : ℕ) (inside : Inside table bounds n) where
  -- a step that is wanted is inside
  pub next_inside : (HaltsAt table n → ⊥) → n ≢ bounds.steps → span table (n + 1) ≤ bounds.cells
      → Inside table bounds (n + 1)
  next_inside goes apart fits =
      let there = next_exists table n inside.here inside.exists goes _ refl in
      record {
        here = there.0;
        exists = there.1;
        within_steps = omega (arith, apart, inside.within_steps);
        within_cells = fits;
      }

  -- a run that ends here, at the last step inside, stays within the cells up to the limit of steps
  pub fits_at_halt : HaltsAt table n → span table bounds.steps ≤ bounds.cells
  fits_at_halt halts =
      omega (arith, span_halted table n bounds.steps halts inside.within_steps, inside.within_cells)

  pub halts_last : HaltsAt table n → IsLastInside table bounds n
  halts_last halts =
      record { inside = inside; greatest = λ m other. halt_is_last table n m other.here halts other.exists }

  pub steps_last : n ≡ bounds.steps → IsLastInside table bounds n
  steps_last e = record { inside = inside; greatest = λ m other. omega (arith, e, other.within_steps) }

  pub cells_last : bounds.cells < span table (n + 1) → IsLastInside table bounds n
  cells_last wide = record {
    inside = inside;
    greatest = λ m other. elim (cases_lt n m) [
      | inl beyond ↦
          absurd (omega (arith, span_grows table (n + 1) m (omega (arith, beyond)), wide, other.within_cells))
      | inr few ↦ few
    ];
  }

  -- where the last step inside is no halt, no step inside is
  pub no_halt_inside : IsLastInside table bounds n → (HaltsAt table n → ⊥) → (m : ℕ)
      → HaltsInside table bounds m → ⊥
  no_halt_inside last goes m halts =
      let least = halt_is_last table m n inside.here halts.halts inside.exists in
      let same : m ≡ n = omega (arith, last.greatest m halts.inside) in
      goes (rw same at halts.halts)

  pub wide_at_end : bounds.cells < span table (n + 1) → n ≢ bounds.steps
      → bounds.cells < span table bounds.steps
  wide_at_end wide apart =
      omega (arith, span_grows table (n + 1) bounds.steps (omega (arith, apart, inside.within_steps)), wide)

-- the meter of a run that has not stepped
pub counted-start : (meter : Meter) (table : Table)
    → record meter { most_cells = max meter.most_cells 1 } ≡ counted meter 0 (span table 0)
counted-start meter table =
    rw span-start (ap (λ n. record meter { steps = n; most_cells = max meter.most_cells 1 }) (omega arith))

-- one step more
pub counted-next : (meter : Meter) (n a b : ℕ) → a ≤ b
    → stepped (counted meter n a) b ≡ counted meter (n + 1) b
counted-next meter n a b h =
    let steps : meter.steps + n + 1 ≡ meter.steps + (n + 1) = omega arith in
    let cells : max (max meter.most_cells a) b ≡ max meter.most_cells b = omega arith in
    cc

module _ {table : Table} {runner : Runner} {view : TapeView} {bounds : Bounds}
    (stands : Stands table runner view) (inside : Inside table bounds runner.steps) where
  -- a runner that stands at a halt
  pub halted_end : HaltsAt table runner.steps → (n ones : ℕ) → n ≡ runner.steps → ones ≡ score view.content
      → HaltsInside table bounds n × IsScore table n ones
  halted_end halts n ones e counted_is =
      rw e (
        record { halts = halts; inside = inside },
        record { here = _; exists = stands.at; counted = counted_is },
      )
