-- Steps a period apart agree. Between records several periods apart there is one after a period.
use Rattle.std.proofs.Common.{◌≡◌, ◌≢◌, ℕ, zero, suc, ◌+◌, ◌-◌, ◌*◌, ◌<◌, ◌≤◌, inl, inr, Some, ℤ, pos, ◌+ℤ◌}
use Rattle.std.proofs.Common.{◌-ℤ◌, ◌≤ℤ◌, ap, sym, subst, ◌∙◌, arith}
use Rattle.std.specs.Prelude.{◌<ℤ◌}
use Rattle.std.specs.Int.{int_min}
use Rattle.std.proofs.lemmas.Bool.{cases_lt}
use Rattle.std.proofs.lemmas.Int.{ints, by_lt_z, clamps}
use Rattle.bb_machine.specs.declared.entry.Dir.{Dir}
use Rattle.bb_machine.specs.declared.entry.Dir.TheVariants as dir
use Rattle.bb_machine.specs.Machine.{Table}
use Rattle.bb_sim.specs.Configuration.{Configuration, beside}
use Rattle.bb_sim.specs.Run.{Never}
use Rattle.bb_sim.specs.Span.{least}
use Rattle.bb_cert.specs.declared.verdict.Side.{Side}
use Rattle.bb_cert.specs.declared.verdict.Side.TheVariants.{L, R}
use Rattle.bb_cert.specs.claims.Laws.{ShortOfRecord}
use Rattle.bb_cert.specs.records.Agree.{Agree}
use Rattle.bb_cert.specs.records.Record.{IsRecord, far, head_at, out}
use Rattle.bb_cert.proofs.Facts.{head_at-is, led_by, moves, stands_on, steps_of_never}
use Rattle.laws_of_recurrence.specs.Recurrence.{Repeats, Transition}
use Rattle.laws_of_recurrence.proofs.Pairs.{transition_at-is, used_by}
use Rattle.laws_of_recurrence.proofs.Shifts.{shift_is_one}
use Rattle.laws_of_recurrence.proofs.Tapes.{IsFirstVisit, moved_symbol, symbol_at-is, visited_or_not}
use Rattle.laws_of_recurrence.proofs.Ways.{GoesOut, goes_each_period}

-- ---- steps by one cell

falls_beside : (side : Side) (to : Dir) (p : ℤ) → out side p ≤ℤ (out side (beside to p) +ℤ pos 1)
falls_beside L dir.L p = omega (arith, ints)
falls_beside L dir.R p = omega (arith, ints)
falls_beside R dir.L p = omega (arith, ints)
falls_beside R dir.R p = omega (arith, ints)

-- a step goes at most one cell nearer
pub falls : (table : Table) (side : Side) (n : ℕ) → Never table
    → out side (head_at table n) ≤ℤ (out side (head_at table (suc n)) +ℤ pos 1)
falls table side n never =
    let moved = moves table n (steps_of_never table never (suc n)) in
    let led_here = led_by table moved.before moved.then_here moved.is_next in
    let before = head_at-is table n moved.before moved.at_before in
    let here = head_at-is table (suc n) moved.then_here moved.at_then in
    let head : head_at table (suc n) ≡ beside led_here.to (head_at table n) = here
    ∙ ap (λ (c : Configuration). c.head) led_here.is ∙ ap (beside led_here.to) (sym before) in
    subst (λ x. out side (head_at table n) ≤ℤ (out side x +ℤ pos 1)) (sym head)
    (falls_beside side led_here.to (head_at table n))

above_next : (a b x : ℤ) → a ≤ℤ (b +ℤ pos 1) → x <ℤ a → x ≢ b → x <ℤ b
above_next a b x h more apart =
    by_lt_z x b (λ above. above) (λ below. absurd (apart (omega (arith, ints, h, more, below))))

above_first : (a x : ℤ) → x ≤ℤ a → x ≢ a → x <ℤ a
above_first a x h apart =
    by_lt_z x a (λ above. above) (λ below. absurd (apart (omega (arith, ints, h, below))))

pub same_out : (side : Side) (x y : ℤ) → out side x ≡ out side y → x ≡ y
same_out L x y same = omega (arith, ints)
same_out R x y same = same

-- a head that starts at a cell or farther out, and is never on that cell, stays farther out
pub stays_above : (table : Table) (side : Side) (never : Never table) (start k : ℕ) (x : ℤ)
    → out side x ≤ℤ out side (head_at table start)
    → ((j : ℕ) → j < suc k → x ≡ head_at table (start + j) → ⊥)
    → (j : ℕ) → j ≤ k → out side x <ℤ out side (head_at table (start + j))
stays_above table side never start k x begins none zero few =
    let here : start ≡ start + 0 = omega arith in
    above_first _ _ (subst (λ n. out side x ≤ℤ out side (head_at table n)) here begins)
    (λ e. none 0 (omega arith) (same_out side _ _ e))
stays_above table side never start k x begins none (suc j) few =
    let here : suc (start + j) ≡ start + suc j = omega arith in
    let before = stays_above table side never start k x begins none j (omega (arith, few)) in
    let step : out side (head_at table (start + j)) ≤ℤ (out side (head_at table (start + suc j)) +ℤ pos 1) =
    subst (λ n. out side (head_at table (start + j)) ≤ℤ (out side (head_at table n) +ℤ pos 1)) here
    (falls table side (start + j) never) in
    above_next _ _ _ step before (λ e. none (suc j) (omega (arith, few)) (same_out side _ _ e))

min_above : (a b c : ℤ) → c <ℤ a → c <ℤ b → c <ℤ int_min a b
min_above a b c h k = omega (arith, ints, clamps)

least_above : (f : ℕ → ℤ) (x : ℤ) (n : ℕ) → ((j : ℕ) → j ≤ n → x <ℤ f j) → x <ℤ least f n
least_above f x zero each = each zero (omega arith)
least_above f x (suc n) each =
    min_above (least f n) (f (suc n)) x (least_above f x n (λ j few. each j (omega (arith, few))))
    (each (suc n) (omega arith))

not_above : (a x : ℤ) → a ≤ℤ x → x <ℤ a → ⊥
not_above a x h more = omega (arith, ints)

-- from step a to step a + period the head visits each cell between where it starts and the nearest position
visits : (table : Table) (side : Side) (a period : ℕ) → Never table → (x : ℤ)
    → far table side a (a + period) ≤ℤ out side x → out side x ≤ℤ out side (head_at table a)
    → IsFirstVisit table a (suc period) x
visits table side a period never x nearest begins = elim (visited_or_not table a (suc period) x) [
  | inl first ↦ first
  | inr none ↦
      let steps : period ≡ (a + period) - a = omega arith in
      let above : out side x <ℤ least (λ u. out side (head_at table (u + a))) period =
      least_above (λ u. out side (head_at table (u + a))) (out side x) period (λ j few.
      let e : a + j ≡ j + a = omega arith in
      subst (λ n. out side x <ℤ out side (head_at table n)) e
      (stays_above table side never a period x begins none j few)) in
      absurd (not_above _ _ nearest
      (subst (λ n. out side x <ℤ least (λ u. out side (head_at table (u + a))) n) steps above))
]

-- ---- steps a period apart agree

head_moves : (p q r s d : ℤ) → p -ℤ q ≡ r -ℤ s → d ≡ r -ℤ s → p ≡ q +ℤ d
head_moves p q r s d e is = omega (arith, ints)

same_some : (p q : Transition) → Some p ≡ Some q → p ≡ q
same_some p q e = cc

pub agrees_after_period : (table : Table) (side : Side) (a period : ℕ) → Repeats table a period
    → Agree table side a (a + period)
agrees_after_period table side a period repeats =
    let never = repeats.never in
    let one = steps_of_never table never a in
    let two = steps_of_never table never (a + period) in
    let first = head_at-is table a one.here one.exists in
    let second = head_at-is table (a + period) two.here two.exists in
    let shift = two.here.head -ℤ one.here.head in
    let transitions : used_by one.here ≡ used_by two.here = same_some (used_by one.here) (used_by two.here)
    (sym (transition_at-is table a one.here one.exists) ∙ sym (repeats.again a (omega arith))
    ∙ transition_at-is table (a + period) two.here two.exists) in
    let moves_by : (j : ℕ) → head_at table ((a + period) + j) ≡ head_at table (a + j) +ℤ shift = λ j.
    let e : (a + j) + period ≡ (a + period) + j = omega arith in
    head_moves _ _ (head_at table (a + period)) (head_at table a) shift
    (ap (λ n. head_at table n -ℤ head_at table (a + j)) (sym e)
    ∙ shift_is_one table a period (a + j) repeats (omega arith))
    (ap (λ h. h -ℤ one.here.head) (sym second) ∙ ap (λ h. head_at table (a + period) -ℤ h) (sym first)) in
    record {
      first = one.here;
      second = two.here;
      at_first = one.exists;
      at_second = two.exists;
      same_state = ap (λ (t : Transition). t.state) transitions;
      same_cells = λ x nearest begins.
          sym (symbol_at-is table a x one.here one.exists)
          ∙ sym (moved_symbol table a period (suc period) shift repeats moves_by x
          (visits table side a period never x nearest
          (subst (λ h. out side x ≤ℤ out side h) (sym first) begins)))
          ∙ symbol_at-is table (a + period) (x +ℤ shift) two.here two.exists;
    }

-- ---- records a period apart

same_number : (x y z : ℤ) (i j d e : ℕ) → x ≡ pos i → y ≡ x +ℤ pos (d + e) → y ≡ pos j → z ≡ pos (i + d)
    → z +ℤ pos e ≡ pos j
same_number x y z i j d e at_x at_y is_y at_z = omega (arith, ints)

pub too_far : (x : ℤ) (i d : ℕ) → x <ℤ pos i → x ≡ pos (i + d) → ⊥
too_far x i d short at = omega (arith, ints)

pub on_it : (x y : ℤ) (i d : ℕ) → x ≡ pos i → y ≡ x +ℤ pos d → y ≡ pos (i + d)
on_it x y i d at goes = omega (arith, ints)

-- if a record is made several periods after another, one is made a period after that
pub record_after_period : ShortOfRecord → (table : Table) (side : Side) (i j a b period cells k : ℕ)
    → IsRecord table side i a → IsRecord table side j b → b ≡ a + suc k * period → Repeats table a period
    → GoesOut table side a (a + period) cells → IsRecord table side (i + cells) (a + period)
record_after_period short table side i j a b period cells k first second later repeats way =
    let never = repeats.never in
    let here = steps_of_never table never (a + period) in
    let on_first = stands_on table side i a first in
    let head = head_at-is table (a + period) here.here here.exists in
    record {
      positive = let some = first.positive in omega (arith, some);
      here = here.here;
      exists = here.exists;
      on_position = ap (out side) (sym head) ∙ on_it _ _ i cells on_first way.goes;
      is_first = λ m less at. elim (cases_lt m a) [
        | inl before ↦ too_far _ i cells (short table side i a first m before) at
        | inr late ↦
            let more : a + suc k * period ≡ (a + period) + k * period = omega arith in
            let soon : m + k * period < b = omega (arith, less, later, more) in
            let onward = goes_each_period table side a period cells repeats way k m late in
            let whole = goes_each_period table side a period cells repeats way (suc k) a (omega arith) in
            let cells_in_all : suc k * cells ≡ cells + k * cells = omega arith in
            let here = out side (head_at table a) in
            let at_second : out side (head_at table b) ≡ here +ℤ pos (cells + k * cells) =
            ap (λ n. out side (head_at table n)) later ∙ whole.goes
            ∙ ap (λ c. here +ℤ pos c) cells_in_all in
            second.is_first (m + k * period) soon
            (onward.goes ∙ same_number _ _ _ i j cells (k * cells) on_first at_second
            (stands_on table side j b second) at)
      ];
    }
