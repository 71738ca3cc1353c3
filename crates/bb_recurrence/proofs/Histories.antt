-- The recorded entries of a run: equal places are equal transitions.
use Rattle.std.proofs.Common.{◌≡◌, ℕ, ◌+◌, ◌-◌, ◌*◌, ◌/◌, ◌%◌, ◌<◌, ◌≤◌, Bool, true, false, List}
use Rattle.std.proofs.Common.{length, Option, Some}
use Rattle.std.proofs.Common.{inl, inr, refl, ap, sym, subst, ◌∙◌, slice_index_or, arith}
use Rattle.std.proofs.Common.{drop}
use Rattle.std.proofs.lemmas.Bool.{cases_lt}
use Rattle.std.proofs.lemmas.List.{ext_get_or, get_or-drop, get_or-take, length-drop, length-take-le}
use Rattle.std.specs.List.{slice_range}
use Rattle.std.proofs.Math.Nat.{mul_assoc, mul_comm}
use Rattle.bb_machine.specs.declared.entry.Next.{Next}
use Rattle.bb_machine.specs.declared.entry.Next.TheVariants.{State}
use Rattle.bb_machine.specs.declared.machine.TheConstants.{MAX_SYMBOLS}
use Rattle.bb_machine.specs.Machine.{Table}
use Rattle.laws_of_recurrence.specs.Recurrence.{IsMultipleOf, Repeats, Transition, transition_at}
use Rattle.laws_of_recurrence.specs.Seen.{Differs, IsSeenStart}
use Rattle.bb_recurrence.specs.History.{UsesEntry, UsesPlace}
use Rattle.bb_recurrence.specs.Lockstep.{TellsRepeats}
use Rattle.bb_recurrence.specs.Period.{IsLeastFrom, TellsPart}
use Rattle.bb_recurrence.proofs.Divisors.{divides_product, half_at_most, quotient_of, some_quotient}
use Rattle.bb_recurrence.proofs.EntryUses.{same_state, same_symbol}
use Rattle.bb_recurrence.proofs.Quotients.{tells_period}
use Rattle.bb_recurrence.proofs.UseSteps.{one_state}

-- ---- one place

abbrev entry_of : ℕ → ℕ → Transition
entry_of q s = record { state = State q; symbol = s }

pub same_of_places : (table : Table) (n m p r : ℕ) → UsesPlace table n p → UsesPlace table m r → r ≡ p
    → transition_at table m ≡ transition_at table n
same_of_places table n m p r one two same =
    let is = one.is_place in
    let is_too = two.is_place in
    let places : MAX_SYMBOLS * two.state + two.symbol ≡ MAX_SYMBOLS * one.state + one.symbol =
    omega (arith, is, is_too, same) in
    let q = same_state two.state two.symbol one.state one.symbol two.inside one.inside places in
    let s = same_symbol two.state two.symbol one.state one.symbol two.inside one.inside places in
    two.at ∙ ap (λ (k : ℕ). Some (entry_of k two.symbol)) q ∙ ap (λ (k : ℕ). Some (entry_of one.state k)) s
    ∙ sym one.at

one_entry : (n p q s r : ℕ) (x : Option Transition) → x ≡ Some (entry_of p s) → x ≡ Some (entry_of q r)
    → entry_of p s ≡ entry_of q r
one_entry n p q s r x is is_too = cc

pub places_of_same : (table : Table) (n m p r : ℕ) → UsesPlace table n p → UsesPlace table m r
    → transition_at table m ≡ transition_at table n → r ≡ p
places_of_same table n m p r one two same =
    let entries = one_entry m two.state one.state two.symbol one.symbol (transition_at table m) two.at
    (same ∙ one.at) in
    let q = one_state (State two.state) two.state one.state refl (ap (λ (t : Transition). t.state) entries) in
    let s : two.symbol ≡ one.symbol = ap (λ (t : Transition). t.symbol) entries in
    let is = one.is_place in
    let is_too = two.is_place in
    omega (arith, is, is_too, q, s)

-- a transition with this state and symbol is that of their entry
pub entry_used : (table : Table) (n q s : ℕ) (x : Transition) → transition_at table n ≡ Some x
    → x.state ≡ State q → x.symbol ≡ s → UsesEntry table n q s
entry_used table n q s x at is_state is_symbol =
    at ∙ ap (λ (k : Next). let t : Transition = record { state = k; symbol = x.symbol } in Some t) is_state
    ∙ ap (λ (k : ℕ). Some (entry_of q k)) is_symbol

-- and the entry has this place
pub uses_place : (table : Table) (n q s place : ℕ) → UsesEntry table n q s → s < MAX_SYMBOLS
    → place ≡ MAX_SYMBOLS * q + s → UsesPlace table n place
uses_place table n q s place at few is =
    record { state = q; symbol = s; inside = few; is_place = is; at = at }

-- ---- one step more

-- ---- a start, step by step back

module _ (table : Table) (first distance : ℕ) (places : List ℕ)
    (recorded : (m : ℕ) → m < first + distance → UsesPlace table m (slice_index_or places m 0)) where
  pub same_back : (start : ℕ) → 0 < start → start ≤ first
      → slice_index_or places (start - 1 + distance) 0 ≡ slice_index_or places (start - 1) 0
      → ((n : ℕ) → start ≤ n → n < first → transition_at table (n + distance) ≡ transition_at table n)
      → (n : ℕ) → start - 1 ≤ n → n < first → transition_at table (n + distance) ≡ transition_at table n
  same_back start some early same later n late soon = elim (cases_lt n start) [
    | inl less ↦
        let e : start - 1 ≡ n = omega (arith, late, less, some) in
        subst (λ k. transition_at table (k + distance) ≡ transition_at table k) e
        (same_of_places table (start - 1) (start - 1 + distance) _ _ (recorded (start - 1) (omega (arith, some, early)))
        (recorded (start - 1 + distance) (omega (arith, some, early))) same)
    | inr more ↦ later n more soon
  ]

  pub start_at_difference : (start : ℕ) → 0 < start → start ≤ first
      → (slice_index_or places (start - 1 + distance) 0 ≡ slice_index_or places (start - 1) 0 → ⊥)
      → ((n : ℕ) → start ≤ n → n < first → transition_at table (n + distance) ≡ transition_at table n)
      → IsSeenStart table first distance start
  start_at_difference start some early other later = record {
    no_later = early;
    same = later;
    differs = λ n is same.
        let e : n ≡ start - 1 = omega (arith, is) in
        other (places_of_same table (start - 1) (start - 1 + distance) _ _
        (recorded (start - 1) (omega (arith, some, early)))
        (recorded (start - 1 + distance) (omega (arith, some, early)))
        (subst (λ k. transition_at table (k + distance) ≡ transition_at table k) e same));
  }

pub start_at_first : (table : Table) (first distance start : ℕ) → start ≡ 0
    → ((n : ℕ) → start ≤ n → n < first → transition_at table (n + distance) ≡ transition_at table n)
    → IsSeenStart table first distance start
start_at_first table first distance start none later = record {
  no_later = omega (arith, none);
  same = later;
  differs = λ n is. absurd (omega (arith, is, none));
}

-- ---- stretches

get_range : (places : List ℕ) (from to i : ℕ) → i < to - from
    → slice_index_or (slice_range places from to) i 0 ≡ slice_index_or places (from + i) 0
get_range places from to i inside =
    get_or-take (to - from) (drop from places) i 0 inside ∙ get_or-drop from places i 0

length_range : (places : List ℕ) (from to : ℕ) → from ≤ to → to ≤ length places
    → length (slice_range places from to) ≡ to - from
length_range places from to order within =
    let dropped = length-drop from places in
    length-take-le (to - from) (drop from places) (omega (arith, dropped, order, within))

module _ (table : Table) (first distance end : ℕ) (places : List ℕ) (order : first + distance ≤ end)
    (few : end ≤ length places)
    (recorded : (m : ℕ) → m < end → UsesPlace table m (slice_index_or places m 0)) where
  same_places : slice_range places first (end - distance) ≡ slice_range places (first + distance) end
      → (n : ℕ) → first ≤ n → n + distance < end
      → slice_index_or places (n + distance) 0 ≡ slice_index_or places n 0
  same_places same n late soon =
      let i = n - first in
      let inside : i < (end - distance) - first = omega (arith, late, soon) in
      let inside_too : i < end - (first + distance) = omega (arith, late, soon) in
      let one : first + i ≡ n = omega (arith, late) in
      let two : (first + distance) + i ≡ n + distance = omega (arith, late) in
      ap (λ k. slice_index_or places k 0) (sym two) ∙ sym (get_range places (first + distance) end i inside_too)
      ∙ ap (λ xs. slice_index_or xs i 0) (sym same) ∙ get_range places first (end - distance) i inside
      ∙ ap (λ k. slice_index_or places k 0) one

  ranges_of_places : ((n : ℕ) → first ≤ n → n + distance < end
      → slice_index_or places (n + distance) 0 ≡ slice_index_or places n 0)
      → slice_range places first (end - distance) ≡ slice_range places (first + distance) end
  ranges_of_places same =
      let one = length_range places first (end - distance) (omega (arith, order)) (omega (arith, few)) in
      let two = length_range places (first + distance) end order few in
      ext_get_or 0 (slice_range places first (end - distance)) (slice_range places (first + distance) end)
      (omega (arith, one, two, order))
      (λ i inside.
      let soon : i < (end - distance) - first = omega (arith, inside, one) in
      let soon_too : i < end - (first + distance) = omega (arith, soon) in
      let e : (first + i) + distance ≡ (first + distance) + i = omega arith in
      get_range places first (end - distance) i soon
      ∙ sym (same (first + i) (omega arith) (omega (arith, soon)))
      ∙ ap (λ k. slice_index_or places k 0) e ∙ sym (get_range places (first + distance) end i soon_too))

  pub tells_repeats : (tells : Bool)
      → (tells ≡ true → slice_range places first (end - distance) ≡ slice_range places (first + distance) end)
      → (slice_range places first (end - distance) ≡ slice_range places (first + distance) end → tells ≡ true)
      → TellsRepeats table first distance end tells
  tells_repeats true forth back = λ n late soon.
      same_of_places table n (n + distance) _ _ (recorded n (omega (arith, soon))) (recorded (n + distance) soon)
      (same_places (forth refl) n late soon)
  tells_repeats false forth back = λ all.
      let same = ranges_of_places (λ n late soon. places_of_same table n (n + distance) _ _
      (recorded n (omega (arith, soon))) (recorded (n + distance) soon) (all n late)) in
      let t = back same in cc

-- ---- the least period

module _ (table : Table) (first known period : ℕ) (places : List ℕ) (some : 0 < period) (less : period < known)
    (repeats : Repeats table first known)
    (recorded : (m : ℕ) → m < first + known → UsesPlace table m (slice_index_or places m 0)) where
  -- the first step tells already
  pub part_by_place : (slice_index_or places (first + period) 0 ≡ slice_index_or places first 0 → ⊥)
      → TellsPart table first known period false
  part_by_place other divides all = other (places_of_same table first (first + period) _ _
      (recorded first (omega (arith, some, less))) (recorded (first + period) (omega (arith, less)))
      (all first (omega arith)))

  -- it doesn't divide
  pub part_by_remainder : (known % period ≡ 0 → ⊥) → TellsPart table first known period false
  part_by_remainder other divides =
      absurd (other (divides_product known period divides.0 (divides.1 ∙ mul_comm divides.0 period)))

  -- all steps tell
  pub part_by_steps : (tells : Bool) → known % period ≡ 0
      → TellsRepeats table first period (first + known) tells → TellsPart table first known period tells
  part_by_steps true by is =
      let divides : IsMultipleOf period known =
      (known / period, quotient_of known period by ∙ mul_comm period (known / period)) in
      (divides, tells_period table first known period true divides some repeats is)
  part_by_steps false by is = λ divides. is

-- no number below this bound divides the distance and is a period
abbrev pub HasNoPartBelow : Table → ℕ → ℕ → ℕ → Type 0
HasNoPartBelow table first known bound =
    (less : ℕ) → 0 < less → less < bound → IsMultipleOf less known → Differs table first less

pub no_part_at_first : (table : Table) (first known : ℕ) → HasNoPartBelow table first known 1
no_part_at_first table first known less some below = absurd (omega (arith, some, below))

pub no_part_on : (table : Table) (first known period : ℕ) → HasNoPartBelow table first known period
    → TellsPart table first known period false → HasNoPartBelow table first known (period + 1)
no_part_on table first known period none differs less some below divides = elim (cases_lt less period) [
  | inl before ↦ none less some before divides
  | inr late ↦
      let e : period ≡ less = omega (arith, below, late) in
      subst (Differs table first) e (differs (subst (λ k. IsMultipleOf k known) (sym e) divides))
]

-- a period is the least one, if no smaller number is
pub least_of_parts : (table : Table) (first known period bound : ℕ) → Repeats table first period
    → IsMultipleOf period known → HasNoPartBelow table first known bound
    → ((less : ℕ) → 2 * less ≤ period → less < bound) → IsLeastFrom table first period
least_of_parts table first known period bound repeats divides none soon = record {
  repeats = repeats;
  no_less = λ q less prime is.
      none less (some_quotient period q less repeats.some is) (soon less (half_at_most period q less prime.above is)) (
        divides.0 * q,
        divides.1 ∙ ap (λ x. divides.0 * x) is ∙ sym (mul_assoc divides.0 q less),
      );
}
