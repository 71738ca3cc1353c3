-- Replies to lines, from results for verdicts, and the cost of a result.
use Rattle.std.proofs.Common.{◌≡◌, ℕ, ◌-◌, ◌*◌, ◌<◌, ◌≤◌, ◌^◌, inl, inr, refl, ap, sym, ◌∙◌, arith}
use Rattle.std.proofs.lemmas.Bool.{cases_lt}
use Rattle.std.proofs.Math.Nat.{mul-le-mul_right, one-le-pow}
use Rattle.bb_machine.specs.Limits.{Bounds, IsAccepted}
use Rattle.bb_machine.specs.Machine.{Table}
use Rattle.bb_sim.specs.declared.meter.Meter.{Meter}
use Rattle.bb_cert.specs.declared.verdict.Verdict.{Verdict}
use Rattle.bb_cert.specs.declared.verdict.Verdict.TheVariants.{Backward, Cycler, Halt, Translated, Undecided}
use Rattle.bb_cert.specs.checker.Answer.{NamesTooMuch}
use Rattle.bb_cert.specs.checker.ClaimMeter.{CountsWindow, levels_of, nodes_of}
use Rattle.bb_recurrence.specs.declared.uses.LastUses.{LastUses}
use Rattle.bb_recurrence.specs.declared.verdict.Finding.{Finding}
use Rattle.bb_recurrence.specs.declared.verdict.Finding.TheVariants.{Answered, NoPair, Recurs}
use Rattle.bb_recurrence.specs.Finding.{CountsFinding, IsFinding, NamesPair}
use Rattle.bb_recurrence.specs.Recurrence.{CountsLong}
use Rattle.bb_recurrence.specs.Writing.{IsKnown}
use Rattle.bb_recurrence.proofs.ConfirmedPairs.{few_of, not_named}
use Rattle.bb_recurrence.proofs.Counting.{long_few}
use Rattle.bb_recurrence.proofs.Reductions.{few_primes}

-- a result has all that is written
pub known_of : (table : Table) (bounds : Bounds) (verdict : Verdict) (uses : LastUses) (finding : Finding)
    → IsFinding table bounds verdict uses finding → IsKnown table uses finding
known_of table bounds verdict uses (Recurs found) is =
    let here = is.1 in
    record {
      exact = here.exact;
      shift = here.shift;
      seen = record {
        period = found.period;
        made = here.second;
        repeats = here.exact.repeats;
        whole = here.whole;
        seen = here.uses;
      };
    }
known_of table bounds verdict uses (Answered answer) is = tt
known_of table bounds verdict uses NoPair is = tt

-- ---- pairs

pub one_first : (verdict : Verdict) (a b c d : ℕ) → NamesPair verdict a b → NamesPair verdict c d → a ≡ c
one_first (Cycler first second) a b c d one two = sym one.0 ∙ two.0
one_first (Translated side first second extent) a b c d one two = sym one.0 ∙ two.0
one_first (Halt steps score) a b c d one two = absurd one
one_first (Backward levels nodes) a b c d one two = absurd one
one_first (Undecided why) a b c d one two = absurd one

pub one_second : (verdict : Verdict) (a b c d : ℕ) → NamesPair verdict a b → NamesPair verdict c d → b ≡ d
one_second (Cycler first second) a b c d one two = sym one.1 ∙ two.1
one_second (Translated side first second extent) a b c d one two = sym one.1 ∙ two.1
one_second (Halt steps score) a b c d one two = absurd one
one_second (Backward levels nodes) a b c d one two = absurd one
one_second (Undecided why) a b c d one two = absurd one

second_within : (bounds : Bounds) (verdict : Verdict) (a b : ℕ) → NamesPair verdict a b
    → (NamesTooMuch bounds verdict → ⊥) → b ≤ bounds.steps
second_within bounds (Cycler first second) a b names fits =
    let few = few_of bounds.steps second (λ many. fits (inr many)) in
    let is = names.1 in
    omega (arith, few, is)
second_within bounds (Translated side first second extent) a b names fits =
    let few = few_of bounds.steps second (λ many. fits (inr many)) in
    let is = names.1 in
    omega (arith, few, is)
second_within bounds (Halt steps score) a b names fits = absurd names
second_within bounds (Backward levels nodes) a b names fits = absurd names
second_within bounds (Undecided why) a b names fits = absurd names

no_tree : (verdict : Verdict) (a b : ℕ) → NamesPair verdict a b → (levels_of verdict ≡ 0) × (nodes_of verdict ≡ 0)
no_tree (Cycler first second) a b names = (refl, refl)
no_tree (Translated side first second extent) a b names = (refl, refl)
no_tree (Halt steps score) a b names = absurd names
no_tree (Backward levels nodes) a b names = absurd names
no_tree (Undecided why) a b names = absurd names

-- ---- costs

pub record IsCheap (bounds : Bounds) (meter : Meter) : Type 0 where
  pub steps : meter.steps ≤ 160 * bounds.steps
  pub cells : meter.most_cells ≤ bounds.cells
  pub no_levels : meter.most_levels ≡ 0
  pub no_nodes : meter.nodes ≡ 0

few_cells : (table : Table) (bounds : Bounds) (verdict : Verdict) (width : ℕ)
    → CountsWindow table bounds verdict width → width ≤ bounds.cells
few_cells table bounds verdict width (inl window) =
    let is = window.is_span in
    let few = window.is_last.inside.within_cells in
    omega (arith, is, few)
few_cells table bounds verdict width (inr none) = omega (arith, none.1)

long_steps : (steps first second period limit : ℕ) → second ≤ limit → period ≤ second → limit ≤ 10 ^ 12
    → CountsLong first second period second steps → steps ≤ 160 * limit
long_steps steps first second period limit within whole accepted counts =
    let few = long_few _ _ _ _ _ counts in
    let some = counts.few_primes in
    let fewer = few_primes counts.primes (second - first) 1 (omega arith) (omega (arith, some))
    (omega (arith, within, accepted)) in
    let times : counts.primes * (4 * (second - first)) ≤ 39 * (4 * (second - first)) =
    mul-le-mul_right (4 * (second - first)) (omega (arith, fewer)) in
    let above : 0 < 2 = omega arith in
    let one : 1 ≤ 2 ^ counts.primes = one-le-pow counts.primes 2 above in
    omega (arith, few, times, whole, within, one, some)

all_steps : (steps first second period limit : ℕ) → second ≤ limit → period ≤ second → limit ≤ 10 ^ 12
    → (second ≤ 4096 → steps ≡ second) → (4096 < second → CountsLong first second period second steps)
    → steps ≤ 160 * limit
all_steps steps first second period limit within whole accepted recorded long = elim (cases_lt 4096 second) [
  | inl many ↦ long_steps steps first second period limit within whole accepted (long many)
  | inr few ↦ let is = recorded (omega (arith, few)) in omega (arith, is, within)
]

pub cheap : (table : Table) (bounds : Bounds) (verdict : Verdict) (uses : LastUses) (finding : Finding) (meter : Meter)
    → IsAccepted bounds → IsFinding table bounds verdict uses finding
    → CountsFinding table bounds verdict meter finding → IsCheap bounds meter
cheap table bounds verdict uses (Recurs found) meter accepted is counts =
    let here = is.1 in
    let whole = here.whole in
    let same = one_second verdict _ _ _ _ here.names counts.names in
    record {
      steps = all_steps meter.steps counts.first counts.second found.period bounds.steps
          (second_within bounds verdict _ _ counts.names (not_named table bounds verdict is.0))
          (omega (arith, whole, same)) accepted.steps counts.recorded counts.long;
      cells = few_cells table bounds verdict meter.most_cells counts.window;
      no_levels = counts.no_levels;
      no_nodes = counts.no_nodes;
    }
cheap table bounds verdict uses (Answered answer) meter accepted is counts =
    let within = counts.within in
    let tree = no_tree verdict is.2.0 is.2.1 is.2.2 in
    let steps = within.steps in
    let levels = within.named_levels in
    let nodes = within.named_nodes in
    record {
      steps = omega (arith, steps);
      cells = few_cells table bounds verdict meter.most_cells counts.window;
      no_levels = omega (arith, levels, tree.0);
      no_nodes = omega (arith, nodes, tree.1);
    }
cheap table bounds verdict uses NoPair meter accepted is counts =
    let steps = ap (λ (m : Meter). m.steps) counts in
    let cells = ap (λ (m : Meter). m.most_cells) counts in
    record {
      steps = omega (arith, steps);
      cells = omega (arith, cells);
      no_levels = ap (λ (m : Meter). m.most_levels) counts;
      no_nodes = ap (λ (m : Meter). m.nodes) counts;
    }
