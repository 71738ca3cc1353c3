-- Going on with a run, and how many of its steps are printed.
use Rattle.std.proofs.Common.{◌≡◌, ◌≢◌, ℕ, ◌+◌, ◌-◌, ◌*◌, ◌/◌, ◌<◌, ◌≤◌, inl, inr, arith}
use Rattle.std.proofs.Math.Nat.{le-div_iff_mul-le, mul-le-mul_left, mul_comm}
use Rattle.std.proofs.lemmas.Bool.{cases_lt}
use Rattle.bb_machine.specs.Limits.{Bounds}
use Rattle.bb_machine.specs.Machine.{Table}
use Rattle.bb_sim.specs.Run.{HaltsAt}
use Rattle.bb_sim.specs.Span.{span, Inside, IsLastInside}
use Rattle.bb_sim.proofs.Facts.{next_inside}
use Rattle.bb_run.specs.inside.RunningOn.{EndsWithin, IsWantedBefore}
use Rattle.bb_run.specs.Sample.{IsSampleSize}

-- a step that was wanted and not made
pub next_wanted : {table : Table} {bounds : Bounds} {old count made here : ℕ} → here ≡ old + made
    → made < count → Inside table bounds here → (HaltsAt table here → ⊥) → here ≢ bounds.steps
    → span table (here + 1) ≤ bounds.cells → IsWantedBefore table bounds old count
next_wanted {table} {bounds} {old} {count} {made} {here} is few inside goes apart fits = record {
  at = here;
  from_old = omega (arith, is);
  few = omega (arith, is, few);
  next = next_inside table bounds here inside goes apart fits;
}

-- a run that ended before so many steps were made
pub ends_within : {table : Table} {bounds : Bounds} {old count made here new : ℕ} → here ≡ old + made
    → made < count → new ≡ here → IsLastInside table bounds new → EndsWithin table bounds old count new
ends_within is few same last = record {
  is_last = last;
  from_old = omega (arith, is, same);
  few = omega (arith, is, few, same);
}

-- later ones of the printed steps come no earlier
pub printed_later : (from every a b : ℕ) → a ≤ b → from + every * a ≤ from + every * b
printed_later from every a b h = let more = mul-le-mul_left every h in omega (arith, more)

-- what comes earlier is an earlier one
pub printed_before : (from every a b : ℕ) → from + every * a < from + every * b → a < b
printed_before from every a b h = elim (cases_lt a b) [
  | inl less ↦ less
  | inr wrong ↦ (let later = printed_later from every b a wrong in absurd (omega (arith, h, later)))
]

-- no more steps are printed up to an earlier step
pub size_grows : {from every m n a b : ℕ} → m ≤ n → IsSampleSize from every m a → IsSampleSize from every n b
    → a ≤ b
size_grows {a} {b} h first then = elim (cases_lt b a) [
  | inl wrong ↦
      (let early = (first.are b).0 wrong in
      absurd (omega (arith, (then.are b).1 (omega (arith, early, h)))))
  | inr few ↦ few
]

pub size_is_unique : {from every n a b : ℕ} → IsSampleSize from every n a → IsSampleSize from every n b
    → a ≡ b
size_is_unique one other =
    omega (arith, size_grows (omega arith) one other, size_grows (omega arith) other one)

-- how many of the printed steps are up to the last
pub size_exists : (from every last : ℕ) → 0 < every → (count : ℕ) × IsSampleSize from every last count
size_exists from every last some = elim (cases_lt last from) [
  | inl before ↦ (
    0,
    record {
      are = λ k. (λ few. absurd (omega (arith, few)), λ early. absurd (omega (arith, early, before)));
    },
  )
  | inr reached ↦ (
    (last - from) / every + 1,
    record {
      are = λ k.
          let printed = le-div_iff_mul-le {k = every} {x = k} {y = last - from} some in
          let turned = mul_comm k every in (
            λ few. let inside = printed.0 (omega (arith, few)) in omega (arith, inside, reached, turned),
            λ early. let inside = printed.1 (omega (arith, early, reached, turned)) in omega (arith, inside),
          );
    },
  )
]
