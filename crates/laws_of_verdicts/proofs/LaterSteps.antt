-- Why a pair says what happens at all later steps.
use Rattle.std.proofs.Common.{◌≡◌, ℕ, zero, suc, ◌+◌, ◌-◌, ◌*◌, ◌<◌, ◌≤◌, Some, ℤ, pos, ◌+ℤ◌, ◌-ℤ◌, refl}
use Rattle.std.proofs.Common.{ap, sym, subst, ◌∙◌, arith}
use Rattle.std.proofs.lemmas.Int.{ints}
use Rattle.bb_machine.specs.Machine.{Table}
use Rattle.bb_sim.specs.Configuration.{Configuration}
use Rattle.bb_sim.specs.Run.{conf}
use Rattle.bb_cert.specs.declared.verdict.Extent.{Extent}
use Rattle.bb_cert.specs.declared.verdict.Side.{Side}
use Rattle.bb_cert.specs.declared.verdict.Side.TheVariants.{L, R}
use Rattle.bb_cert.specs.declared.verdict.Verdict.TheVariants.{Translated}
use Rattle.bb_cert.specs.records.Record.{out, head_at}
use Rattle.bb_cert.specs.claims.Claim.{Claim}
use Rattle.bb_cert.specs.claims.Repeat.{Same}
use Rattle.bb_cert.specs.claims.Laws.{AgreeingRecordsGoOn}
use Rattle.bb_cert.proofs.Facts.{repeats_go_on}
use Rattle.laws_of_verdicts.specs.LaterSteps.{CyclersComeAgain, MovesOut, TranslatedCyclersMoveOn}

same_on : (table : Table) (a b c : ℕ) → Same table a b → Same table b c → Same table a c
same_on table a b c one two =
    let e : one.here ≡ two.here = cc in
    record { here = two.here; at_first = one.at_first ∙ ap Some e; at_second = two.at_second }

same_again : (table : Table) (a b n : ℕ) → a < b → Same table a b → a ≤ n → Same table n (n + (b - a))
same_again table a b n in_order same late =
    let first : a + (n - a) ≡ n = omega (arith, late) in
    let second : b + (n - a) ≡ n + (b - a) = omega (arith, late, in_order) in
    rw first at (rw second at (repeats_go_on table a b in_order same (n - a)))

pub cyclers_come_again : CyclersComeAgain
cyclers_come_again table a b n zero claim late =
    let once = same_again table a b n claim.0 claim.1 late in
    let e : n ≡ n + 0 * (b - a) = omega arith in
    record { here = once.here; at_first = once.at_first; at_second = ap (conf table) (sym e) ∙ once.at_first }
cyclers_come_again table a b n (suc k) claim late =
    let before = cyclers_come_again table a b n k claim late in
    let again = same_again table a b (n + k * (b - a)) claim.0 claim.1 (omega (arith, late)) in
    let e : (n + k * (b - a)) + (b - a) ≡ n + suc k * (b - a) = omega arith in
    subst (Same table n) e (same_on table n (n + k * (b - a)) ((n + k * (b - a)) + (b - a)) before again)

-- the head's way, by how far apart the heads at a and b are
out_by : (side : Side) (p q x y : ℤ) (shift : ℕ) → y -ℤ x ≡ q -ℤ p → pos shift ≡ out side q -ℤ out side p
    → out side y ≡ out side x +ℤ pos shift
out_by L p q x y shift apart shifted = omega (arith, ints)
out_by R p q x y shift apart shifted = omega (arith, ints)

moves_again : AgreeingRecordsGoOn → (table : Table) (side : Side) (a b n : ℕ) (extent : Extent)
    → Claim table (Translated side a b (Some extent)) → a ≤ n
    → MovesOut table side n (n + (b - a)) extent.shift
moves_again go_on table side a b n extent claim late =
    let alike = go_on table side a b claim.0 (n - a) in
    let first : a + (n - a) ≡ n = omega (arith, late) in
    let second : b + (n - a) ≡ n + (b - a) = omega (arith, late, claim.0.in_order) in
    record {
      first = alike.first;
      second = alike.second;
      at_first = ap (conf table) (sym first) ∙ alike.at_first;
      at_second = ap (conf table) (sym second) ∙ alike.at_second;
      same_state = sym alike.same_state;
      farther = out_by side (head_at table a) (head_at table b) alike.first.head alike.second.head
          extent.shift alike.shifted claim.1.shift;
    }

moves_on : (table : Table) (side : Side) (a b c i j : ℕ) → MovesOut table side a b i
    → MovesOut table side b c j
    → MovesOut table side a c (i + j)
moves_on table side a b c i j one two =
    let x = one.at_second in
    let y = two.at_first in
    let e : one.second ≡ two.first = cc in
    record {
      first = one.first;
      second = two.second;
      at_first = one.at_first;
      at_second = two.at_second;
      same_state = two.same_state ∙ ap (λ (c : Configuration). c.state) (sym e) ∙ one.same_state;
      farther = add_up _ _ _ i j (ap (λ (c : Configuration). out side c.head) e) one.farther two.farther;
    } where
      add_up : (x z w : ℤ) {y : ℤ} (i j : ℕ) → y ≡ z → y ≡ x +ℤ pos i → w ≡ z +ℤ pos j
          → w ≡ x +ℤ pos (i + j)
      add_up x z w i j e f g = omega (arith, ints)

pub translated_cyclers_move_on : AgreeingRecordsGoOn → TranslatedCyclersMoveOn
translated_cyclers_move_on go_on table side a b n zero extent claim late =
    let once = moves_again go_on table side a b n extent claim late in
    let e : n ≡ n + 0 * (b - a) = omega arith in
    let none : 0 ≡ 0 * extent.shift = omega arith in
    record {
      first = once.first;
      second = once.first;
      at_first = once.at_first;
      at_second = ap (conf table) (sym e) ∙ once.at_first;
      same_state = refl;
      farther = subst (λ k. out side once.first.head ≡ out side once.first.head +ℤ pos k) none
          (no_farther (out side once.first.head));
    } where
      no_farther : (x : ℤ) → x ≡ x +ℤ pos 0
      no_farther x = omega (arith, ints)
translated_cyclers_move_on go_on table side a b n (suc k) extent claim late =
    let before = translated_cyclers_move_on go_on table side a b n k extent claim late in
    let again = moves_again go_on table side a b (n + k * (b - a)) extent claim (omega (arith, late)) in
    let e : (n + k * (b - a)) + (b - a) ≡ n + suc k * (b - a) = omega arith in
    let f : k * extent.shift + extent.shift ≡ suc k * extent.shift = omega arith in
    subst (MovesOut table side n (n + suc k * (b - a))) f
    (subst (λ m. MovesOut table side n m (k * extent.shift + extent.shift)) e
    (moves_on table side n (n + k * (b - a)) ((n + k * (b - a)) + (b - a)) (k * extent.shift) extent.shift
    before again))
