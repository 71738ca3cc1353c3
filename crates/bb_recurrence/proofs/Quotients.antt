-- A quotient of a period, which is a period or isn't, and the exact recurrence from the least period.
use Rattle.std.proofs.Common.{◌≡◌, ℕ, ◌+◌, ◌-◌, ◌<◌, ◌≤◌, Bool, true, false, subst, ◌∙◌}
use Rattle.std.proofs.Common.{arith, ℤ}
use Rattle.bb_machine.specs.Machine.{Table}
use Rattle.laws_of_recurrence.specs.Recurrence.{IsMultipleOf, transition_at, Repeats, RepeatsExactly}
use Rattle.laws_of_recurrence.specs.Seen.{IsSeenStart}
use Rattle.laws_of_recurrence.specs.Shift.{IsShift}
use Rattle.laws_of_recurrence.proofs.Facts.{exact_from, seen_is_period, shift_is_one}
use Rattle.bb_recurrence.specs.Lockstep.{TellsRepeats}
use Rattle.bb_recurrence.specs.Period.{IsLeastFrom, TellsPeriod}

-- the answer of two runners, by their steps
pub tells_by_steps : (table : Table) (k a first distance end : ℕ) (tells : Bool) → k ≡ first → a ≡ first + distance
    → TellsRepeats table k (a - k) end tells → TellsRepeats table first distance end tells
tells_by_steps table k a first distance end tells at_first apart is =
    let same : a - k ≡ distance = omega (arith, at_first, apart) in
    subst (λ d. TellsRepeats table first d end tells) same
    (subst (λ f. TellsRepeats table f (a - k) end tells) at_first is)

-- a quotient with which the steps of a period repeat is a period
pub tells_period : (table : Table) (first period quotient : ℕ) (tells : Bool) → IsMultipleOf quotient period
    → 0 < quotient → Repeats table first period
    → TellsRepeats table first quotient (first + period) tells → TellsPeriod table first quotient tells
tells_period table first period quotient true divides some repeats tells = record {
  some = some;
  never = repeats.never;
  again = seen_is_period (transition_at table) first period quotient repeats.some divides repeats.again tells;
}
tells_period table first period quotient false divides some repeats tells = tells

pub exact_of_parts : (table : Table) (first distance start period : ℕ) → Repeats table first distance
    → IsLeastFrom table first period → IsSeenStart table first distance start
    → RepeatsExactly table start period
exact_of_parts table first distance start period pair least begins =
    exact_from table first distance start period pair least.repeats.some least.repeats.again
    (λ q less prime is. least.no_less q less prime is) begins

-- the head goes as far in a period from the first step of a pair on as from the start on
pub shift_of_start : (table : Table) (first start period : ℕ) (shift : ℤ) → RepeatsExactly table start period
    → start ≤ first → IsShift table first period shift → IsShift table start period shift
shift_of_start table first start period shift exact early is =
    is ∙ shift_is_one table start period first exact.repeats early
