-- Records of a side: their numbers and their steps.
use Rattle.std.proofs.Common.{◌≡◌, ◌≢◌, ℕ, zero, suc, ◌<◌, ◌≤◌, ◌⊎◌, inl, inr, Some, ℤ, pos, ◌+ℤ◌, ◌≤ℤ◌, ap}
use Rattle.std.proofs.Common.{sym, subst, ◌∙◌, arith}
use Rattle.std.specs.Prelude.{◌<ℤ◌}
use Rattle.std.proofs.lemmas.Bool.{cases_lt, cases_order}
use Rattle.std.proofs.lemmas.Int.{ints, by_lt_z}
use Rattle.bb_machine.specs.Machine.{Table}
use Rattle.bb_tape.specs.Content.{cell}
use Rattle.bb_tape.proofs.Facts.{cell-blank, cell-with_cell-other}
use Rattle.bb_sim.specs.Configuration.{Configuration, start}
use Rattle.bb_sim.specs.Run.{conf, Exists}
use Rattle.bb_sim.proofs.Facts.{conf-start}
use Rattle.bb_cert.specs.declared.verdict.Side.{Side}
use Rattle.bb_cert.specs.records.Record.{out, head_at, IsRecord}
use Rattle.bb_cert.specs.claims.Laws.{RecordHasOneStep, RecordsInOrder, LowerRecordsExist, ShortOfRecord}
use Rattle.bb_cert.specs.claims.Laws.{RecordTakesSteps}
use Rattle.bb_tree.proofs.Facts.{moves, earlier}
use Rattle.bb_cert.proofs.record_lemmas.Positions.{out-zero, led_by, head_at-is, head_at-start, climbs}

-- where record j is made, the head is j cells out
pub stands_on : (table : Table) (side : Side) (j n : ℕ) → IsRecord table side j n
    → out side (head_at table n) ≡ pos j
stands_on table side j n made = ap (out side) (head_at-is table n made.here made.exists) ∙ made.on_position

pub has_step : (table : Table) (side : Side) (j n : ℕ) → IsRecord table side j n → Exists table n
has_step table side j n made = record { here = made.here; exists = made.exists }

out_at_start : (table : Table) (side : Side) → out side (head_at table 0) ≡ pos 0
out_at_start table side = ap (out side) (head_at-start table) ∙ out-zero side

below_next : (a b : ℤ) (j : ℕ) → b ≤ℤ (a +ℤ pos 1) → a <ℤ pos j → b ≢ pos j → b <ℤ pos j
below_next a b j h less apart =
    by_lt_z b (pos j) (λ below. below) (λ above. absurd (apart (omega (arith, ints, h, less, above))))

zero_below : (a : ℤ) (j : ℕ) → a ≡ pos 0 → 0 < j → a <ℤ pos j
zero_below a j e some = omega (arith, ints)

pub short_of_record : ShortOfRecord
short_of_record table side j n made zero less = zero_below _ j (out_at_start table side) made.positive
short_of_record table side j n made (suc m) less =
    let before = short_of_record table side j n made m (omega (arith, less)) in
    let step = earlier table n (suc m) (omega (arith, less)) (has_step table side j n made) in
    below_next (out side (head_at table m)) (out side (head_at table (suc m))) j (climbs table side m step)
    before (made.is_first (suc m) less)

-- a run that gets so far out has made that record, or is short of it at each step
record IsMade (table : Table) (side : Side) (i n : ℕ) : Type 0 where
  at : ℕ
  no_later : at ≤ n
  made : IsRecord table side i at

apart_below : (a : ℤ) (i : ℕ) → a <ℤ pos i → a ≢ pos i
apart_below a i less e = omega (arith, ints)

made_or_short : (table : Table) (side : Side) (i : ℕ) → 0 < i → (n : ℕ) → Exists table n
    → IsMade table side i n ⊎ ((m : ℕ) → m ≤ n → out side (head_at table m) <ℤ pos i)
made_or_short table side i some zero step = inr (λ m h. let e : zero ≡ m = omega (arith, h) in
    subst (λ k. out side (head_at table k) <ℤ pos i) e (zero_below _ i (out_at_start table side) some))
made_or_short table side i some (suc n) step =
    elim (made_or_short table side i some n (earlier table (suc n) n (omega arith) step)) [
      | inl made ↦ inl (record {
        at = made.at;
        no_later = let h = made.no_later in omega (arith, h);
        made =
            made.made;
      })
      | inr short ↦ by_lt_z (out side (head_at table (suc n))) (pos i)
          (λ less. inr (λ m h. elim (cases_lt m (suc n)) [
            | inl before ↦ short m (omega (arith, before))
            | inr after ↦ let e : suc n ≡ m = omega (arith, h, after) in
                subst (λ k. out side (head_at table k) <ℤ pos i) e less
          ]))
          (λ more. inl (record {
            at = suc n;
            no_later = omega arith;
            made = record {
              positive = some;
              here = step.here;
              exists = step.exists;
              on_position = ap (out side) (sym (head_at-is table (suc n) step.here step.exists))
                  ∙ just_there _ _ i (climbs table side n step) (short n (omega arith)) more;
              is_first = λ m h. apart_below _ i (short m (omega (arith, h)));
            };
          }))
    ] where
      just_there : (a b : ℤ) (j : ℕ) → b ≤ℤ (a +ℤ pos 1) → a <ℤ pos j → pos j ≤ℤ b → b ≡ pos j
      just_there a b j h less more = omega (arith, ints)

-- a run that gets so far out has made that record
pub reaches : (table : Table) (side : Side) (i n : ℕ) → 0 < i → Exists table n
    → pos i ≤ℤ out side (head_at table n)
    → (m : ℕ) × (m ≤ n) × IsRecord table side i m
reaches table side i n some step far_out = elim (made_or_short table side i some n step) [
  | inl made ↦ (made.at, made.no_later, made.made)
  | inr short ↦ absurd (apart _ _ far_out (short n (omega arith)))
] where
  apart : (a b : ℤ) → b ≤ℤ a → a <ℤ b → ⊥
  apart a b h less = omega (arith, ints)

pub lower_records_exist : LowerRecordsExist
lower_records_exist table side i j n some h made =
    reaches table side i n some (has_step table side j n made) (in_reach _ (stands_on table side j n made))
  where
    in_reach : (a : ℤ) → a ≡ pos j → pos i ≤ℤ a
    in_reach a e = omega (arith, ints)

pub record_has_one_step : RecordHasOneStep
record_has_one_step table side j n m first second = elim (cases_order n m) [
  | inl same ↦ same
  | inr apart ↦ elim apart [
    | inl less ↦ absurd (second.is_first n less (stands_on table side j n first))
    | inr more ↦ absurd (first.is_first m more (stands_on table side j m second))
  ]
]

lower_before : (table : Table) (side : Side) (i j n m : ℕ) → IsRecord table side i n
    → IsRecord table side j m → n < m → i < j
lower_before table side i j n m first second less = below _ (stands_on table side i n first)
    (short_of_record table side j m second n less) where
      below : (a : ℤ) → a ≡ pos i → a <ℤ pos j → i < j
      below a e h = omega (arith, ints)

pub records_in_order : RecordsInOrder
records_in_order table side i j n m first second = (later, lower_before table side i j n m first second) where
  same_number : (a b : ℤ) → a ≡ b → a ≡ pos i → b ≡ pos j → i ≡ j
  same_number a b e at_a at_b = omega (arith, ints)

  later : i < j → n < m
  later less = elim (cases_order n m) [
    | inl same ↦ let e = same_number _ _ (ap (λ k. out side (head_at table k)) same)
        (stands_on table side i n first) (stands_on table side j m second) in absurd (omega (arith, e, less))
    | inr apart ↦ elim apart [
      | inl before ↦ before
      | inr after ↦ let more = lower_before table side j i m n second first after in
          absurd (omega (arith, more, less))
    ]
  ]

-- up to record j no cell that is j or more cells out was written
pub blank_beyond : (table : Table) (side : Side) (j n : ℕ) → IsRecord table side j n → (m : ℕ) → m ≤ n
    → (c : Configuration) → conf table m ≡ Some c
    → (x : ℤ) → pos j ≤ℤ out side x → cell c.tape x ≡ 0
blank_beyond table side j n made zero h c at x beyond =
    let begun = conf-start table in
    let same : start ≡ c = cc in
    subst (λ (d : Configuration). cell d.tape x ≡ 0) same (cell-blank x)
blank_beyond table side j n made (suc m) h c at x beyond =
    let moved = moves table m (record { here = c; exists = at }) in
    let led_here = led_by table moved.before moved.then_here moved.is_next in
    let at_then = moved.at_then in
    let is = led_here.is in
    let same : c ≡ moved.then_here = cc in
    let before = blank_beyond table side j n made m (omega (arith, h)) moved.before moved.at_before x
    beyond in
    let short = short_of_record table side j n made m (omega (arith, h)) in
    let apart : x ≢ moved.before.head = not_there (head_at table m) moved.before.head
    (head_at-is table m moved.before moved.at_before) short in
    ap (λ (d : Configuration). cell d.tape x) (same ∙ is)
    ∙ cell-with_cell-other moved.before.tape moved.before.head led_here.write x apart ∙ before where
      clash : (a b : ℤ) → pos j ≤ℤ a → b <ℤ pos j → a ≡ b → ⊥
      clash a b far_out near e = omega (arith, ints)

      not_there : (p q : ℤ) → p ≡ q → out side p <ℤ pos j → x ≢ q
      not_there p q e near at_q = clash (out side x) (out side p) beyond near (ap (out side) (at_q ∙ sym e))

out_at_most : (table : Table) (side : Side) (n : ℕ) → Exists table n → out side (head_at table n) ≤ℤ pos n
out_at_most table side zero step = at_most _ (out_at_start table side) where
  at_most : (p : ℤ) → p ≡ pos 0 → p ≤ℤ pos zero
  at_most p e = omega (arith, ints)
out_at_most table side (suc n) step =
    one_more _ _ (out_at_most table side n (earlier table (suc n) n (omega arith) step))
    (climbs table side n step) where
      one_more : (p q : ℤ) → p ≤ℤ pos n → q ≤ℤ (p +ℤ pos 1) → q ≤ℤ pos (suc n)
      one_more p q h k = omega (arith, ints)

pub record_takes_steps : RecordTakesSteps
record_takes_steps table side j n made = through _ (stands_on table side j n made)
    (out_at_most table side n (has_step table side j n made)) where
      through : (p : ℤ) → p ≡ pos j → p ≤ℤ pos n → j ≤ n
      through p e h = omega (arith, ints)
