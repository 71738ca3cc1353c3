-- The exact start and period of a cycler are those of its configurations.
use Rattle.std.proofs.Common.{◌≡◌, ℕ, zero, suc, ◌+◌, ◌-◌, ◌*◌, ◌<◌, ◌≤◌, ℤ, ◌-ℤ◌, ap, sym, subst, ◌∙◌, arith}
use Rattle.std.proofs.lemmas.Int.{ints}
use Rattle.bb_machine.specs.Machine.{Table}
use Rattle.bb_cert.specs.claims.Repeat.{Same}
use Rattle.bb_cert.specs.records.Record.{head_at}
use Rattle.bb_cert.proofs.Facts.{head_at-is}
use Rattle.laws_of_recurrence.specs.Recurrence.{IsMultipleOf, Repeats}
use Rattle.laws_of_recurrence.specs.Shift.{ExactOfCyclers}
use Rattle.laws_of_recurrence.proofs.Exact.{exact_tells_all, periods_are_multiples, starts_serve_all_periods}
use Rattle.laws_of_recurrence.proofs.Pairs.{cyclers_repeat}
use Rattle.laws_of_recurrence.proofs.Shifts.{shift_is_one}
use Rattle.laws_of_recurrence.proofs.Tapes.{comes_again}
use Rattle.laws_of_recurrence.proofs.Ways.{back_after_period}

same_heads : (table : Table) (a b : ℕ) → Same table a b → head_at table b ≡ head_at table a
same_heads table a b same =
    head_at-is table b same.here same.at_second ∙ sym (head_at-is table a same.here same.at_first)

-- a cycler's head is back after the exact period
back_after_exact : (table : Table) (a b period : ℕ) → a < b → Same table a b → Repeats table a period
    → (times : IsMultipleOf period (b - a)) → head_at table (a + period) ≡ head_at table a
back_after_exact table a b period in_order same repeats times = by_times times.0 times.1 where
  by_times : (k : ℕ) → b - a ≡ k * period → head_at table (a + period) ≡ head_at table a
  by_times zero is = absurd (omega (arith, is, in_order))
  by_times (suc k) is =
      let second : a + suc k * period ≡ b = omega (arith, is, in_order) in
      back_after_period table a period k repeats (ap (head_at table) second ∙ same_heads table a b same)

same_way : (x y s t : ℤ) → y -ℤ x ≡ t -ℤ s → t ≡ s → y ≡ x
same_way x y s t apart e = omega (arith, ints)

-- a head that is back after a period from one step is so from each
back_from_each : (table : Table) (a s period : ℕ) → Repeats table a period → Repeats table s period
    → head_at table (a + period) ≡ head_at table a → head_at table (s + period) ≡ head_at table s
back_from_each table a s period at_a at_s back =
    let one = shift_is_one table a period (a + s) at_a (omega arith) in
    let two = shift_is_one table s period (a + s) at_s (omega arith) in
    same_way _ _ _ _ (sym two ∙ one) back

-- and after several periods
back_after_several : (table : Table) (s period k : ℕ) → Repeats table s period
    → head_at table (s + period) ≡ head_at table s → head_at table (s + k * period) ≡ head_at table s
back_after_several table s period zero repeats back =
    let here : s + 0 * period ≡ s = omega arith in ap (head_at table) here
back_after_several table s period (suc k) repeats back =
    let there : s + suc k * period ≡ (s + k * period) + period = omega arith in
    let shift = shift_is_one table s period (s + k * period) repeats (omega arith) in
    ap (head_at table) there
    ∙ same_way _ _ _ _ shift back
    ∙ back_after_several table s period k repeats back

pub exact_of_cyclers : ExactOfCyclers
exact_of_cyclers table a b start period s p claim exact some = (to_exact, to_same) where
  to_exact : Same table s (s + p) → (start ≤ s) × IsMultipleOf period p
  to_exact same =
      let distance : (s + p) - s ≡ p = omega arith in
      let pair = cyclers_repeat table s (s + p) (omega (arith, some), same) in
      let repeats = subst (Repeats table s) distance pair in
      let told = (exact_tells_all table start period s p exact).0 repeats in
      (told.1, told.2)

  to_same : (start ≤ s) × IsMultipleOf period p → Same table s (s + p)
  to_same told =
      let pair = cyclers_repeat table a b claim in
      let times = periods_are_multiples table start period a (b - a) exact pair in
      let at_a = starts_serve_all_periods table a (b - a) start period pair exact.repeats in
      let back = back_after_exact table a b period claim.0 claim.1 at_a times in
      let repeats = (exact_tells_all table start period s p exact).1 (some, told.0, told.1) in
      let at_s = starts_serve_all_periods table s p start period repeats exact.repeats in
      let here = back_from_each table a s period at_a at_s back in
      comes_again table s p repeats
      (ap (λ n. head_at table (s + n)) told.1.1 ∙ back_after_several table s period told.1.0 at_s here)
