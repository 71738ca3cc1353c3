-- Records that agree: from them on, the run goes alike.
use Rattle.std.proofs.Common.{◌≡◌, ℕ, zero, suc, ◌+◌, ◌-◌, ◌<◌, ◌≤◌, inl, inr, Some, option_and_then, ℤ, pos}
use Rattle.std.proofs.Common.{◌+ℤ◌, ◌-ℤ◌, ◌≤ℤ◌, ap, sym, subst, ◌∙◌, arith}
use Rattle.std.proofs.lemmas.Bool.{cases_lt}
use Rattle.std.proofs.lemmas.Int.{ints, by_lt_z}
use Rattle.bb_machine.specs.Machine.{Table}
use Rattle.bb_tape.specs.Content.{cell}
use Rattle.bb_sim.specs.Configuration.{Configuration, next}
use Rattle.bb_sim.specs.Run.{conf, Exists}
use Rattle.bb_sim.proofs.Facts.{conf-suc, least_bounds}
use Rattle.bb_cert.specs.declared.verdict.Side.{Side}
use Rattle.bb_cert.specs.records.Record.{out, head_at, far}
use Rattle.bb_cert.specs.records.Agree.{AgreeingRecords}
use Rattle.bb_cert.specs.claims.Laws.{AgreeingRecordsGoOn, AgreeingRecordsNeverHalt}
use Rattle.bb_tree.proofs.Facts.{moves, earlier, never_of_steps}
use Rattle.bb_cert.proofs.record_lemmas.Positions.{out-add, out-subtract, head_at-is}
use Rattle.bb_cert.proofs.record_lemmas.Records.{stands_on, has_step, records_in_order, blank_beyond}
use Rattle.bb_cert.proofs.claim_lemmas.Regions.{IsMoved, step_alike}

-- how far apart the heads at two steps are
abbrev pub distance : Table → ℕ → ℕ → ℤ
distance table a b = head_at table b -ℤ head_at table a

-- at least as far out as the head is from a to b
abbrev pub beyond : Table → Side → ℕ → ℕ → ℤ → Type 0
beyond table side a b x = far table side a b ≤ℤ out side x

-- steps a + u and b + u are alike, and the head is no nearer than it is from a to b
pub record IsAlike (table : Table) (side : Side) (a b u : ℕ) : Type 0 where
  pub first : Configuration
  pub second : Configuration
  pub at_first : conf table (a + u) ≡ Some first
  pub at_second : conf table (b + u) ≡ Some second
  pub moved : IsMoved (beyond table side a b) (distance table a b) first second
  pub inside : beyond table side a b first.head

-- the two heads, by their distance
distance_is : (p q p' q' : ℤ) → p ≡ p' → q ≡ q' → q' -ℤ p' ≡ q -ℤ p
distance_is p q p' q' at_p at_q = omega (arith, ints)

past_second : (x : ℤ) {y d p q : ℤ} {i j : ℕ} → y ≡ x +ℤ d → d ≡ q -ℤ p → p ≡ pos i → q ≡ pos j → pos i ≤ℤ x
    → pos j ≤ℤ y
past_second x e apart at_p at_q past = omega (arith, ints)

module _ (table : Table) (side : Side) (a b : ℕ) (records : AgreeingRecords table side a b) where
  -- the head at b is farther out
  pub farther : pos 1 ≤ℤ out side (distance table a b)
  farther =
      let at_first = stands_on table side records.first_number a records.first_record in
      let at_second = stands_on table side records.second_number b records.second_record in
      let more = (records_in_order table side records.first_number records.second_number a b
      records.first_record records.second_record).1 records.in_order in
      omega (arith, ints, out-subtract side (head_at table b) (head_at table a), at_first, at_second, more)

  -- from a to b the head is no nearer than the least
  within : (u : ℕ) → u ≤ b - a → beyond table side a b (head_at table (a + u))
  within u h =
      let e : u + a ≡ a + u = omega arith in
      subst (λ n. beyond table side a b (head_at table n)) e
      (least_bounds (λ k. out side (head_at table (k + a))) u (b - a) h)

  -- farther out than both records the tape is blank
  blank_at_both : (x : ℤ) → pos records.first_number ≤ℤ out side x
      → cell records.agree.first.tape x ≡ cell records.agree.second.tape (x +ℤ distance table a b)
  blank_at_both x past =
      let at_first = stands_on table side records.first_number a records.first_record in
      let at_second = stands_on table side records.second_number b records.second_record in
      let past_it = past_second (out side x) (out-add side x (distance table a b))
      (out-subtract side (head_at table b) (head_at table a)) at_first at_second past in
      blank_beyond table side records.first_number a records.first_record a (omega arith) records.agree.first
      records.agree.at_first x past
      ∙ sym (blank_beyond table side records.second_number b records.second_record b (omega arith)
      records.agree.second records.agree.at_second _ past_it)

  start_cells : (x : ℤ) → beyond table side a b x
      → cell records.agree.first.tape x ≡ cell records.agree.second.tape (x +ℤ distance table a b)
  start_cells x inside =
      let agree = records.agree in
      let at_first = head_at-is table a agree.first agree.at_first in
      let at_second = head_at-is table b agree.second agree.at_second in
      let on_first = ap (out side) (sym at_first)
      ∙ stands_on table side records.first_number a records.first_record in
      by_lt_z (out side agree.first.head) (out side x)
      (λ past. blank_at_both x (omega (arith, ints, on_first, past)))
      (λ near. agree.same_cells x inside near
      ∙ ap (λ d. cell agree.second.tape (x +ℤ d)) (distance_is _ _ _ _ at_first at_second))

  start_alike : IsAlike table side a b 0
  start_alike =
      let agree = records.agree in
      let at_first = head_at-is table a agree.first agree.at_first in
      let at_second = head_at-is table b agree.second agree.at_second in
      let no_more : a + 0 ≡ a = omega arith in
      let none_more : b + 0 ≡ b = omega arith in
      record {
        first = agree.first;
        second = agree.second;
        at_first = rw no_more agree.at_first;
        at_second = rw none_more agree.at_second;
        moved = record {
          same_state = agree.same_state;
          same_head = omega (arith, ints, at_first, at_second);
          same_cells = start_cells;
        };
        inside = subst (beyond table side a b) (ap (head_at table) no_more ∙ at_first)
            (within 0 (omega arith));
      }

  -- one step more, where there is one and the head is no nearer
  next_alike : (u : ℕ) → IsAlike table side a b u → Exists table (a + suc u)
      → beyond table side a b (head_at table (a + suc u)) → IsAlike table side a b (suc u)
  next_alike u alike step inside =
      let one_more : a + suc u ≡ suc (a + u) = omega arith in
      let and_more : b + suc u ≡ suc (b + u) = omega arith in
      let moved = moves table (a + u) (subst (Exists table) one_more step) in
      let same : moved.before ≡ alike.first = cc (moved.at_before, alike.at_first) in
      let leads = step_alike (beyond table side a b) (distance table a b) table alike.first alike.second
      alike.moved alike.inside moved.then_here (ap (next table) (sym same) ∙ moved.is_next) in
      let at_next : conf table (a + suc u) ≡ Some leads.then_first = ap (conf table) one_more
      ∙ conf-suc table (a + u) ∙ ap (option_and_then (next table)) alike.at_first ∙ leads.first_next in
      record {
        first = leads.then_first;
        second = leads.then_second;
        at_first = at_next;
        at_second = ap (conf table) and_more ∙ conf-suc table (b + u)
            ∙ ap (option_and_then (next table)) alike.at_second ∙ leads.second_next;
        moved = leads.moved;
        inside = subst (beyond table side a b) (head_at-is table (a + suc u) leads.then_first at_next) inside;
      }

  -- a step b - a after one that is alike exists, and the head is no nearer there
  step_beyond : (v : ℕ) → IsAlike table side a b v → Exists table (b + v)
      × beyond table side a b (head_at table (b + v))
  step_beyond v alike =
      let head = head_at-is table (b + v) alike.second alike.at_second ∙ alike.moved.same_head in
      let is = ap (out side) head ∙ out-add side alike.first.head (distance table a b) in
      let there : Exists table (b + v) = record { here = alike.second; exists = alike.at_second } in
      (there, omega (arith, ints, is, alike.inside, farther))

  -- where all steps before are alike, there is one more, and the head is no nearer there
  stays : (u : ℕ) → ((v : ℕ) → v < u → IsAlike table side a b v) → Exists table (a + u)
      × beyond table side a b (head_at table (a + u))
  stays u before =
      elim (cases_lt (b - a) u) [
        | inl past ↦
            let e : b + (u - (b - a)) ≡ a + u = omega (arith, past, records.in_order) in
            subst (λ n. Exists table n × beyond table side a b (head_at table n)) e
            (step_beyond (u - (b - a)) (before (u - (b - a)) (omega (arith, past, records.in_order))))
        | inr near ↦
            let h : a + u ≤ b = omega (arith, near, records.in_order) in (
              earlier table b (a + u) h (has_step table side records.second_number b records.second_record),
              within u near,
            )
      ]

  alike_up_to : (u v : ℕ) → v ≤ u → IsAlike table side a b v
  alike_up_to zero v h = let e : zero ≡ v = omega (arith, h) in subst (IsAlike table side a b) e start_alike
  alike_up_to (suc u) v h =
      let before = alike_up_to u in
      elim (cases_lt v (suc u)) [
        | inl less ↦ before v (omega (arith, less))
        | inr more ↦
            let e : suc u ≡ v = omega (arith, h, more) in
            let there = stays (suc u) (λ w less. before w (omega (arith, less))) in
            subst (IsAlike table side a b) e (next_alike u (before u (omega arith)) there.0 there.1)
      ]

  pub alike : (u : ℕ) → IsAlike table side a b u
  alike u = alike_up_to u u (omega arith)

apart_by : (p q d : ℤ) → q ≡ p +ℤ d → q -ℤ p ≡ d
apart_by p q d e = omega (arith, ints)

pub agreeing_records_go_on : AgreeingRecordsGoOn
agreeing_records_go_on table side a b records u =
    let here = alike table side a b records u in
    record {
      first = here.first;
      second = here.second;
      at_first = here.at_first;
      at_second = here.at_second;
      same_state = here.moved.same_state;
      shifted = apart_by _ _ _ here.moved.same_head;
      same_cells = here.moved.same_cells;
    }

pub agreeing_records_never_halt : AgreeingRecordsNeverHalt
agreeing_records_never_halt table side a b records = never_of_steps table (λ n.
    let here = alike table side a b records n in
    earlier table (a + n) n (omega arith) (record { here = here.first; exists = here.at_first }))
