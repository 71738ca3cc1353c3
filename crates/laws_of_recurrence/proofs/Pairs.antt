-- A run with a true pair repeats.
use Rattle.std.proofs.Common.{◌≡◌, ℕ, zero, suc, ◌+◌, ◌-◌, ◌<◌, ◌≤◌, inl, inr, Some, ℤ, pos, ◌+ℤ◌, ◌-ℤ◌}
use Rattle.std.proofs.Common.{◌≤ℤ◌, refl, ap, sym, subst, ◌∙◌, arith}
use Rattle.std.proofs.lemmas.Bool.{cases_lt}
use Rattle.std.proofs.lemmas.Int.{ints}
use Rattle.bb_machine.specs.Machine.{Table}
use Rattle.bb_tape.specs.Content.{cell}
use Rattle.bb_sim.specs.Configuration.{Configuration}
use Rattle.bb_sim.specs.Run.{conf}
use Rattle.bb_sim.proofs.Facts.{least_bounds}
use Rattle.bb_cert.specs.declared.verdict.Side.{Side}
use Rattle.bb_cert.specs.declared.verdict.Side.TheVariants.{L, R}
use Rattle.bb_cert.specs.claims.Laws.{AgreeingRecordsGoOn}
use Rattle.bb_cert.specs.records.Agree.{AgreeingRecords}
use Rattle.bb_cert.specs.records.Record.{far, head_at, out}
use Rattle.bb_cert.proofs.Facts.{agreeing_records_never_halt, head_at-is, records_in_order, stands_on}
use Rattle.bb_cert.proofs.Facts.{repeats_go_on, repeats_never_halt}
use Rattle.laws_of_recurrence.specs.Recurrence.{CyclersRepeat, Repeats, Transition, TranslatedCyclersRepeat}
use Rattle.laws_of_recurrence.specs.Recurrence.{transition_at, transition_of}

-- the transition of a configuration
abbrev pub used_by : Configuration → Transition
used_by c = record { state = c.state; symbol = cell c.tape c.head }

pub transition_at-is : (table : Table) (n : ℕ) (c : Configuration) → conf table n ≡ Some c
    → transition_at table n ≡ Some (used_by c)
unfolding transition_at
transition_at-is table n c at = ap transition_of at

-- configurations of one state, with one symbol under the head
same_transition : (table : Table) (n m : ℕ) (c d : Configuration) → conf table n ≡ Some c
    → conf table m ≡ Some d → c.state ≡ d.state → cell c.tape c.head ≡ cell d.tape d.head
    → transition_at table m ≡ transition_at table n
same_transition table n m c d at_n at_m states symbols =
    let one = transition_at-is table n c at_n in
    let two = transition_at-is table m d at_m in
    let same : Some (used_by d) ≡ Some (used_by c) = cc in
    two ∙ same ∙ sym one

pub cyclers_repeat : CyclersRepeat
cyclers_repeat table a b claim =
    let in_order = claim.0 in
    record {
      some = omega (arith, in_order);
      never = repeats_never_halt table a b in_order claim.1;
      again = λ n late.
          let first : a + (n - a) ≡ n = omega (arith, late) in
          let second : b + (n - a) ≡ n + (b - a) = omega (arith, late, in_order) in
          let same = repeats_go_on table a b in_order claim.1 (n - a) in
          ap (transition_at table) (sym second)
          ∙ same_transition table (a + (n - a)) (b + (n - a)) same.here same.here same.at_first same.at_second
          refl refl
          ∙ ap (transition_at table) first;
    }

-- ---- agreeing records

-- between positions that are i and j out, with i < j
farther_by : (side : Side) (x y p q : ℤ) (i j : ℕ) → out side p ≡ pos i → out side q ≡ pos j → i < j
    → y -ℤ x ≡ q -ℤ p → out side x ≤ℤ out side y
farther_by L x y p q i j at_p at_q less apart = omega (arith, ints)
farther_by R x y p q i j at_p at_q less apart = omega (arith, ints)

moved_cell : (x y d : ℤ) → y -ℤ x ≡ d → y ≡ x +ℤ d
moved_cell x y d apart = omega (arith, ints)

module _ (go_on : AgreeingRecordsGoOn) (table : Table) (side : Side) (a b : ℕ)
    (records : AgreeingRecords table side a b) where
  -- a step no nearer than those from a to b
  abbrev IsBeyond : ℕ → Type 0
  IsBeyond n = far table side a b ≤ℤ out side (head_at table n)

  within : (u : ℕ) → u ≤ b - a → IsBeyond (a + u)
  within u h =
      let e : u + a ≡ a + u = omega arith in
      subst IsBeyond e (least_bounds (λ k. out side (head_at table (k + a))) u (b - a) h)

  -- the distance of the records later, the head is farther out
  beyond_next : (v : ℕ) → IsBeyond (a + v) → IsBeyond (b + v)
  beyond_next v here =
      let alike = go_on table side a b records v in
      let first = head_at-is table (a + v) alike.first alike.at_first in
      let second = head_at-is table (b + v) alike.second alike.at_second in
      let at_first = stands_on table side records.first_number a records.first_record in
      let at_second = stands_on table side records.second_number b records.second_record in
      let more = (records_in_order table side records.first_number records.second_number a b
      records.first_record records.second_record).1 records.in_order in
      let farther = farther_by side alike.first.head alike.second.head (head_at table a) (head_at table b)
      records.first_number records.second_number at_first at_second more alike.shifted in
      let here_is = ap (out side) first in
      let there_is = ap (out side) second in
      omega (arith, ints, here, farther, here_is, there_is)

  beyond_by : (fuel u : ℕ) → u ≤ fuel → IsBeyond (a + u)
  beyond_by zero u few = within u (omega (arith, few))
  beyond_by (suc fuel) u few = elim (cases_lt (b - a) u) [
    | inl past ↦
        let in_order = records.in_order in
        let e : b + (u - (b - a)) ≡ a + u = omega (arith, past, in_order) in
        subst IsBeyond e
        (beyond_next (u - (b - a)) (beyond_by fuel (u - (b - a)) (omega (arith, few, past, in_order))))
    | inr near ↦ within u near
  ]

  agreeing_again : (n : ℕ) → a ≤ n → transition_at table (n + (b - a)) ≡ transition_at table n
  agreeing_again n late =
      let in_order = records.in_order in
      let first : a + (n - a) ≡ n = omega (arith, late) in
      let second : b + (n - a) ≡ n + (b - a) = omega (arith, late, in_order) in
      let alike = go_on table side a b records (n - a) in
      let head = head_at-is table (a + (n - a)) alike.first alike.at_first in
      let beyond : far table side a b ≤ℤ out side alike.first.head =
      subst (λ x. far table side a b ≤ℤ out side x) head (beyond_by (n - a) (n - a) (omega arith)) in
      let there = moved_cell alike.first.head alike.second.head (head_at table b -ℤ head_at table a)
      alike.shifted in
      ap (transition_at table) (sym second)
      ∙ same_transition table (a + (n - a)) (b + (n - a)) alike.first alike.second alike.at_first
      alike.at_second alike.same_state
      (alike.same_cells alike.first.head beyond ∙ ap (cell alike.second.tape) (sym there))
      ∙ ap (transition_at table) first

pub records_repeat : AgreeingRecordsGoOn → (table : Table) (side : Side) (a b : ℕ)
    → AgreeingRecords table side a b → Repeats table a (b - a)
records_repeat go_on table side a b records =
    let in_order = records.in_order in
    record {
      some = omega (arith, in_order);
      never = agreeing_records_never_halt table side a b records;
      again = agreeing_again go_on table side a b records;
    }

pub translated_cyclers_repeat : AgreeingRecordsGoOn → TranslatedCyclersRepeat
translated_cyclers_repeat go_on table side a b extent claim = records_repeat go_on table side a b claim.0
