-- Where two records agree, all later ones exist, and those at the same distance agree.
use Rattle.std.proofs.Common.{◌≡◌, ℕ, zero, suc, ◌+◌, ◌-◌, ◌<◌, ◌≤◌, inl, inr, pos, ◌+ℤ◌, ◌-ℤ◌, ◌≤ℤ◌, ap}
use Rattle.std.proofs.Common.{sym, subst, ◌∙◌, arith}
use Rattle.std.proofs.lemmas.Bool.{cases_lt}
use Rattle.std.proofs.lemmas.Int.{ints}
use Rattle.bb_machine.specs.Machine.{Table}
use Rattle.bb_tape.specs.Content.{cell}
use Rattle.bb_sim.specs.Run.{Exists}
use Rattle.bb_cert.specs.declared.verdict.Side.{Side}
use Rattle.bb_cert.specs.records.Record.{out, head_at, IsRecord, far}
use Rattle.bb_cert.specs.records.Agree.{Agree, AgreeingRecords}
use Rattle.bb_cert.specs.claims.Laws.{HasRecord, RecordPair}
use Rattle.bb_cert.proofs.record_lemmas.Positions.{out-add, out-subtract, head_at-is, least_at_least, through}
use Rattle.bb_cert.proofs.record_lemmas.Records.{stands_on, reaches, records_in_order}
use Rattle.bb_cert.proofs.record_lemmas.Agreements.{distance, beyond, farther, alike}

module _ (table : Table) (side : Side) (a b : ℕ) (records : AgreeingRecords table side a b) where
  has_first : (u : ℕ) → Exists table (a + u)
  has_first u = let here = alike table side a b records u in
      record { here = here.first; exists = here.at_first }

  has_second : (u : ℕ) → Exists table (b + u)
  has_second u = let here = alike table side a b records u in
      record { here = here.second; exists = here.at_second }

  -- from a on, the head is no nearer than it is from a to b
  never_nearer : (u : ℕ) → beyond table side a b (head_at table (a + u))
  never_nearer u =
      let here = alike table side a b records u in
      subst (beyond table side a b) (sym (head_at-is table (a + u) here.first here.at_first)) here.inside

  -- the head after b is farther out than after a, by the distance of the two
  farther_by : (u : ℕ) → out side (head_at table (b + u)) ≡ out side (head_at table (a + u)) +ℤ out side
      (distance table a b)
  farther_by u =
      let here = alike table side a b records u in
      let at_first = head_at-is table (a + u) here.first here.at_first in
      let at_second = head_at-is table (b + u) here.second here.at_second in
      ap (out side) (at_second ∙ here.moved.same_head) ∙ out-add side here.first.head (distance table a b)
      ∙ ap (λ p. out side p +ℤ out side (distance table a b)) (sym at_first)

  -- a step at which the head is so far out
  goes_out : (k : ℕ) → (u : ℕ) × (pos k ≤ℤ out side (head_at table (a + u)))
  goes_out zero =
      let e : a + 0 ≡ a = omega arith in
      (0, rw e (omega (arith, ints, stands_on table side records.first_number a records.first_record)))
  goes_out (suc k) =
      let before = goes_out k in
      let e : a + ((b - a) + before.0) ≡ b + before.0 = omega (arith, records.in_order) in
      let is = farther_by before.0 in
      ((b - a) + before.0, rw e (omega (arith, ints, is, farther table side a b records, before.1)))

  every_record : (j : ℕ) → 0 < j → (n : ℕ) × IsRecord table side j n
  every_record j some =
      let there = goes_out j in
      let made = reaches table side j (a + there.0) some (has_first there.0) there.1 in
      (made.0, made.2)

  -- from then on, steps at the distance of the two agree
  later_agree : (u : ℕ) → Agree table side (a + u) (b + u)
  later_agree u =
      let here = alike table side a b records u in
      let nearest : far table side a b ≤ℤ far table side (a + u) (b + u) =
      least_at_least (λ k. out side (head_at table (k + (a + u)))) (far table side a b) (λ k.
      let e : a + (u + k) ≡ k + (a + u) = omega arith in
      subst (λ n. beyond table side a b (head_at table n)) e (never_nearer (u + k))) ((b + u) - (a + u)) in
      let apart : distance table a b ≡ here.second.head -ℤ here.first.head =
      omega (arith, ints, here.moved.same_head) in
      record {
        first = here.first;
        second = here.second;
        at_first = here.at_first;
        at_second = here.at_second;
        same_state = here.moved.same_state;
        same_cells = λ x inside near. here.moved.same_cells x (through _ _ _ nearest inside)
            ∙ ap (λ d. cell here.second.tape (x +ℤ d)) apart;
      }

pub has_record : HasRecord
has_record table side a b j records some = every_record table side a b records j some

module _ (table : Table) (side : Side) (i r a b : ℕ) (some : 0 < r) (first : IsRecord table side i a)
    (second : IsRecord table side (i + r) b) (agree : Agree table side a b) where
  in_order : a < b
  in_order = (records_in_order table side i (i + r) a b first second).0 (omega (arith, some))

  records : AgreeingRecords table side a b
  records = record {
    in_order = in_order;
    first_number = i;
    second_number = i + r;
    first_record = first;
    second_record = second;
    agree = agree;
  }

  at_a : out side (head_at table a) ≡ pos i
  at_a = stands_on table side i a first

  at_b : out side (head_at table b) ≡ pos (i + r)
  at_b = stands_on table side (i + r) b second

  apart : out side (distance table a b) ≡ out side (head_at table b) -ℤ out side (head_at table a)
  apart = out-subtract side (head_at table b) (head_at table a)

  -- the head is on record j's position u steps after a if it is on that of record j + r u steps after b, and
  -- so back
  on_later : (j u : ℕ) → out side (head_at table (a + u)) ≡ pos j
      → out side (head_at table (b + u)) ≡ pos (j + r)
  on_later j u at = omega (arith, ints, farther_by table side a b records u, apart, at_a, at_b, at)

  on_earlier : (j u : ℕ) → out side (head_at table (b + u)) ≡ pos (j + r)
      → out side (head_at table (a + u)) ≡ pos j
  on_earlier j u at = omega (arith, ints, farther_by table side a b records u, apart, at_a, at_b, at)

  -- no step before the one u after b makes record j + r, where the step u after a makes record j
  not_before : (j u m : ℕ) → i ≤ j → IsRecord table side j (a + u) → IsRecord table side (j + r) m
      → m < b + u → ⊥
  not_before j u m h made other less = elim (cases_lt m b) [
    | inl below ↦ let wrong = (records_in_order table side (j + r) (i + r) m b other second).1 below in
        absurd (omega (arith, wrong, h))
    | inr above ↦
        let e : m ≡ b + (m - b) = omega (arith, above) in
        let there = ap (λ n. out side (head_at table n)) (sym e) ∙ stands_on table side (j + r) m other in
        absurd (made.is_first (a + (m - b)) (omega (arith, above, less)) (on_earlier j (m - b) there))
  ]

  -- where a record is made u steps after a, the one r numbers later is made u steps after b
  later_record : (j u : ℕ) → i ≤ j → IsRecord table side j (a + u) → IsRecord table side (j + r) (b + u)
  later_record j u h made =
      let at = on_later j u (stands_on table side j (a + u) made) in
      let found = reaches table side (j + r) (b + u) (omega (arith, some))
      (has_second table side a b records u) (omega (arith, ints, at)) in
      elim (cases_lt found.0 (b + u)) [
        | inl less ↦ absurd (not_before j u found.0 h made found.2 less)
        | inr more ↦ let e : found.0 ≡ b + u = omega (arith, found.1, more) in rw e at found.2
      ]

  pair_after : (j n : ℕ) → i ≤ j → IsRecord table side j n → a ≤ n → (k : ℕ) × (m : ℕ)
      × IsRecord table side j k × IsRecord table side (j + r) m × Agree table side k m
  pair_after j n h made after =
      let e : n ≡ a + (n - a) = omega (arith, after) in
      let at = subst (IsRecord table side j) e made in
      (a + (n - a), b + (n - a), at, later_record j (n - a) h at, later_agree table side a b records (n - a))

pub record_pair : RecordPair
record_pair table side i r a b j some first second agree h =
    let found = every_record table side a b (records table side i r a b some first second agree) j
    (omega (arith, first.positive, h)) in
    pair_after table side i r a b some first second agree j found.0 h found.1 (elim (cases_lt found.0 a) [
      | inl less ↦ let wrong = (records_in_order table side j i found.0 a found.1 first).1 less in
          absurd (omega (arith, wrong, h))
      | inr after ↦ after
    ])
