-- How one write changes the fingerprint of a tape.
use Rattle.std.proofs.Common.{◌≡◌, ◌≢◌, ℕ, zero, suc, ◌+◌, ◌-◌, ◌*◌, ◌<◌, ◌%◌, ◌^◌, refl, ap, sym, ◌∙◌}
use Rattle.std.proofs.Common.{inl, inr, ℤ, pos, negsuc, ◌≤ℤ◌, neg_ℤ, arith}
use Rattle.std.proofs.Math.Nat.{add-mod-mod, add-mul-mod_self_right, mod-add-mod, mul-add}
use Rattle.std.proofs.lemmas.Bool.{cases_lt}
use Rattle.std.proofs.lemmas.Int.{ints}
use Rattle.std.proofs.lemmas.Nat.{mul-mod_second}
use Rattle.bb_tape.specs.declared.tape.TheConstants.{MAX_CELLS}
use Rattle.bb_tape.specs.Content.{Content, blank, cell, with_cell}
use Rattle.bb_tape.proofs.Facts.{cell-blank, cell-with_cell-same, cell-with_cell-other}
use Rattle.bb_decide.specs.Fingerprint.{fingerprint, place, sum_to, total}

-- sums of equal terms are equal
sum_same : (f g : ℕ → ℕ) (n : ℕ) → ((k : ℕ) → k < n → f k ≡ g k) → sum_to f n ≡ sum_to g n
unfolding sum_to
sum_same f g zero same = refl
sum_same f g (suc n) same =
    omega (arith, sum_same f g n (λ k below. same k (omega (arith, below))), same n (omega arith))

-- where one term differs, they differ by it
sum_changed : (f g : ℕ → ℕ) (j n : ℕ) → j < n → ((k : ℕ) → k ≢ j → f k ≡ g k)
    → sum_to g n + f j ≡ sum_to f n + g j
unfolding sum_to
sum_changed f g j zero below same = absurd (omega (arith, below))
sum_changed f g j (suc n) below same = elim (cases_lt j n) [
  | inl earlier ↦
      omega (arith, sum_changed f g j n earlier same, same n (λ is. omega (arith, is, earlier)))
  | inr late ↦
      let is : j ≡ n = omega (arith, below, late) in
      let before = sum_same f g n (λ k less. same k (λ other. omega (arith, other, is, less))) in
      rw is (omega (arith, before))
]

-- sums of nothing are nothing
sum_zero : (f : ℕ → ℕ) (n : ℕ) → ((k : ℕ) → f k ≡ 0) → sum_to f n ≡ 0
unfolding sum_to
sum_zero f zero none = refl
sum_zero f (suc n) none = omega (arith, sum_zero f n none, none n)

-- a position that a window may have is one of the places
record IsPlace (p : ℤ) : Type 0 where
  number : ℕ
  below : number < 2 * MAX_CELLS + 1
  is : p ≡ place number

as_place : (p : ℤ) → neg_ℤ (pos MAX_CELLS) ≤ℤ p → p ≤ℤ pos MAX_CELLS → IsPlace p
as_place (pos n) low high = record {
  number = n + MAX_CELLS;
  below = omega (arith, ints, high);
  is = omega (arith, ints);
}
as_place (negsuc n) low high = record {
  number = MAX_CELLS - suc n;
  below = omega (arith, ints, low);
  is = omega (arith, ints, low);
}

-- a write takes away what the old symbol added, and adds the new one's
total_written : (key : ℤ → ℕ) (tape : Content) (p : ℤ) (v : ℕ) → neg_ℤ (pos MAX_CELLS) ≤ℤ p
    → p ≤ℤ pos MAX_CELLS → total key (with_cell tape p v) + key p * cell tape p ≡ total key tape + key p * v
unfolding total
total_written key tape p v low high =
    let at = as_place p low high in
    let f : ℕ → ℕ = λ k. key (place k) * cell tape (place k) in
    let g : ℕ → ℕ = λ k. key (place k) * cell (with_cell tape p v) (place k) in
    let changed = sum_changed f g at.number (2 * MAX_CELLS + 1) at.below (λ k apart.
    ap (λ s. key (place k) * s) (sym (cell-with_cell-other tape p v (place k) (λ is.
    apart (omega (arith, ints, is, at.is)))))) in
    let old : f at.number ≡ key p * cell tape p = ap (λ x. key x * cell tape x) (sym at.is) in
    let new : g at.number ≡ key p * v =
    ap (λ x. key x * cell (with_cell tape p v) x) (sym at.is)
    ∙ ap (λ s. key p * s) (cell-with_cell-same tape p v) in
    omega (arith, changed, old, new)

-- the same of what is computed, modulo 2^64
pub current_written : (key : ℤ → ℕ) (tape : Content) (p : ℤ) (old new current : ℕ) → neg_ℤ (pos MAX_CELLS) ≤ℤ p
    → p ≤ℤ pos MAX_CELLS → old < 2 ^ 64 → current ≡ fingerprint key tape → cell tape p ≡ old
    → (current + key p * ((new + (2 ^ 64 - old)) % 2 ^ 64) % 2 ^ 64) % 2 ^ 64
    ≡ fingerprint key (with_cell tape p new)
current_written key tape p old new current low high few is here =
    let written = total_written key tape p new low high in
    let whole : key p * (new + (2 ^ 64 - old)) + key p * old ≡ key p * new + key p * 2 ^ 64 =
    sym (mul-add (key p) (new + (2 ^ 64 - old)) old) ∙ ap (λ n. key p * n) (omega (arith, few))
    ∙ mul-add (key p) new (2 ^ 64) in
    let same : total key tape + key p * (new + (2 ^ 64 - old))
    ≡ total key (with_cell tape p new) + key p * 2 ^ 64 =
    let old_is = ap (λ n. key p * n) here in omega (arith, written, whole, old_is) in
    ap (λ n. (n + key p * ((new + (2 ^ 64 - old)) % 2 ^ 64) % 2 ^ 64) % 2 ^ 64) is
    ∙ mod-add-mod (total key tape) (2 ^ 64) (key p * ((new + (2 ^ 64 - old)) % 2 ^ 64) % 2 ^ 64)
    ∙ ap (λ n. (total key tape + n) % 2 ^ 64) (mul-mod_second (key p) (new + (2 ^ 64 - old)) (2 ^ 64))
    ∙ add-mod-mod (total key tape) (key p * (new + (2 ^ 64 - old))) (2 ^ 64)
    ∙ ap (λ n. n % 2 ^ 64) same
    ∙ add-mul-mod_self_right (total key (with_cell tape p new)) (key p) (2 ^ 64)

pub current-blank : (key : ℤ → ℕ) → fingerprint key blank ≡ 0
unfolding total
current-blank key = ap (λ n. n % 2 ^ 64) (sum_zero _ (2 * MAX_CELLS + 1) (λ k.
    ap (λ s. key (place k) * s) (cell-blank (place k)) ∙ omega arith))
