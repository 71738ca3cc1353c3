-- The way of the head over several periods.
use Rattle.std.proofs.Common.{◌≡◌, ℕ, zero, suc, ◌+◌, ◌*◌, ◌≤◌, ℤ, pos, negsuc, ◌+ℤ◌, ◌-ℤ◌, refl, ap, sym}
use Rattle.std.proofs.Common.{◌∙◌, arith}
use Rattle.std.proofs.lemmas.Int.{ints}
use Rattle.bb_machine.specs.Machine.{Table}
use Rattle.bb_cert.specs.declared.verdict.Side.{Side}
use Rattle.bb_cert.specs.declared.verdict.Side.TheVariants.{L, R}
use Rattle.bb_cert.specs.records.Record.{head_at, out}
use Rattle.laws_of_recurrence.specs.Recurrence.{Repeats}
use Rattle.laws_of_recurrence.proofs.Shifts.{shift_is_one}

-- from step n to step m the head goes so many cells out on a side
pub record GoesOut (table : Table) (side : Side) (n m cells : ℕ) : Type 0 where
  pub goes : out side (head_at table m) ≡ out side (head_at table n) +ℤ pos cells

out_by : (side : Side) (x y s t base : ℤ) (d e : ℕ) → y -ℤ x ≡ t -ℤ s → out side t ≡ out side s +ℤ pos d
    → out side x ≡ base +ℤ pos e → out side y ≡ base +ℤ pos (e + d)
out_by L x y s t base d e apart first before = omega (arith, ints)
out_by R x y s t base d e apart first before = omega (arith, ints)

no_way : (x : ℤ) → x ≡ x +ℤ pos 0
no_way x = omega (arith, ints)

-- k periods go k times as far
pub goes_each_period : (table : Table) (side : Side) (start period cells : ℕ) → Repeats table start period
    → GoesOut table side start (start + period) cells → (k n : ℕ) → start ≤ n
    → GoesOut table side n (n + k * period) (k * cells)
goes_each_period table side start period cells repeats way zero n late =
    let here : n ≡ n + 0 * period = omega arith in
    let none : 0 ≡ 0 * cells = omega arith in
    record {
      goes = sym (ap (λ m. out side (head_at table m)) here) ∙ no_way (out side (head_at table n))
          ∙ ap (λ c. out side (head_at table n) +ℤ pos c) none;
    }
goes_each_period table side start period cells repeats way (suc k) n late =
    let before = goes_each_period table side start period cells repeats way k n late in
    let there : (n + k * period) + period ≡ n + suc k * period = omega arith in
    let more : k * cells + cells ≡ suc k * cells = omega arith in
    let shift = shift_is_one table start period (n + k * period) repeats (omega (arith, late)) in
    record {
      goes = sym (ap (λ m. out side (head_at table m)) there)
          ∙ out_by side (head_at table (n + k * period)) (head_at table ((n + k * period) + period))
          (head_at table start) (head_at table (start + period)) (out side (head_at table n)) cells
          (k * cells) shift way.goes before.goes
          ∙ ap (λ c. out side (head_at table n) +ℤ pos c) more;
    }

-- in a period the head goes so many cells out, on one of the sides
pub record HasWay (table : Table) (n m : ℕ) : Type 0 where
  pub side : Side
  pub cells : ℕ
  pub way : GoesOut table side n m cells

pub has_way : (table : Table) (n m : ℕ) → HasWay table n m
has_way table n m = by_distance (head_at table m -ℤ head_at table n) refl where
  to_right : (x y : ℤ) (d : ℕ) → y -ℤ x ≡ pos d → y ≡ x +ℤ pos d
  to_right x y d apart = omega (arith, ints)

  to_left : (x y : ℤ) (d : ℕ) → y -ℤ x ≡ negsuc d → out L y ≡ out L x +ℤ pos (suc d)
  to_left x y d apart = omega (arith, ints)

  by_distance : (d : ℤ) → head_at table m -ℤ head_at table n ≡ d → HasWay table n m
  by_distance (pos d) e =
      record { side = R; cells = d; way = record { goes = to_right _ _ d e } }
  by_distance (negsuc d) e =
      record { side = L; cells = suc d; way = record { goes = to_left _ _ d e } }

pub goes_nowhere : (x y : ℤ) (side : Side) → out side y ≡ out side x +ℤ pos 0 → y ≡ x
goes_nowhere x y L e = omega (arith, ints)
goes_nowhere x y R e = omega (arith, ints)

none_of_product : (k c : ℕ) (x : ℤ) → x ≡ x +ℤ pos (suc k * c) → c ≡ 0
none_of_product k zero x e = omega arith
none_of_product k (suc c) x e =
    let more : suc k * suc c ≡ suc (c + k * suc c) = omega arith in
    absurd (omega (arith, ints, e, more))

-- a head that is back after several periods is back after one
pub back_after_period : (table : Table) (a period k : ℕ) → Repeats table a period
    → head_at table (a + suc k * period) ≡ head_at table a → head_at table (a + period) ≡ head_at table a
back_after_period table a period k repeats back =
    let here = has_way table a (a + period) in
    let whole = goes_each_period table here.side a period here.cells repeats here.way (suc k) a
    (omega arith) in
    let none = none_of_product k here.cells (out here.side (head_at table a))
    (sym (ap (out here.side) back) ∙ whole.goes) in
    goes_nowhere _ _ here.side
    (here.way.goes ∙ ap (λ c. out here.side (head_at table a) +ℤ pos c) none)
