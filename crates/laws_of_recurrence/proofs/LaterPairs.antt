-- A run that repeats has a pair: a cycler, or agreeing records.
use Rattle.std.proofs.Common.{◌≡◌, ℕ, zero, suc, ◌+◌, ◌-◌, ◌*◌, ◌<◌, ◌≤◌, ◌⊎◌, inl, inr, ℤ, pos, ◌+ℤ◌, ◌-ℤ◌}
use Rattle.std.proofs.Common.{◌≤ℤ◌, refl, ap, sym, subst, ◌∙◌, arith}
use Rattle.std.specs.Prelude.{◌<ℤ◌, neg_ℤ, None}
use Rattle.std.proofs.Math.Nat.{le-mul_of_pos_right}
use Rattle.std.proofs.lemmas.Bool.{cases_lt}
use Rattle.std.proofs.lemmas.Int.{ints}
use Rattle.bb_machine.specs.Machine.{Table}
use Rattle.bb_sim.specs.Configuration.{start}
use Rattle.bb_sim.specs.Run.{Never}
use Rattle.bb_sim.proofs.Facts.{conf-start}
use Rattle.bb_cert.specs.declared.verdict.Side.{Side}
use Rattle.bb_cert.specs.declared.verdict.Side.TheVariants.{L, R}
use Rattle.bb_cert.specs.declared.verdict.Verdict.TheVariants.{Cycler, Translated}
use Rattle.bb_cert.specs.claims.Claim.{Claim}
use Rattle.bb_cert.specs.claims.Laws.{ShortOfRecord}
use Rattle.bb_cert.specs.records.Agree.{AgreeingRecords}
use Rattle.bb_cert.specs.records.Record.{IsRecord, head_at, out}
use Rattle.bb_cert.proofs.Facts.{head_at-is, record_takes_steps, stands_on, steps_of_never}
use Rattle.laws_of_recurrence.specs.Pairs.{LateRecordsArePairs, RepeatsHavePairs}
use Rattle.laws_of_recurrence.specs.Recurrence.{Repeats}
use Rattle.laws_of_recurrence.proofs.Agreements.{agrees_after_period, falls, on_it, same_out}
use Rattle.laws_of_recurrence.proofs.Agreements.{stays_above, too_far}
use Rattle.laws_of_recurrence.proofs.Shifts.{shift_is_one}
use Rattle.laws_of_recurrence.proofs.Tapes.{IsFirstVisit, comes_again, visited_or_not}
use Rattle.laws_of_recurrence.proofs.Ways.{GoesOut, goes_each_period, goes_nowhere, has_way}

-- a later start
later : (table : Table) (s p n : ℕ) → Repeats table s p → s ≤ n → Repeats table n p
later table s p n repeats late = record {
  some = repeats.some;
  never = repeats.never;
  again = λ m after. repeats.again m (omega (arith, late, after));
}

same_way : (side : Side) (x y u v : ℤ) (d : ℕ) → y -ℤ x ≡ v -ℤ u → out side v ≡ out side u +ℤ pos d
    → out side y ≡ out side x +ℤ pos d
same_way L x y u v d apart goes = omega (arith, ints)
same_way R x y u v d apart goes = omega (arith, ints)

-- the way of a period, from a later step
later_way : (table : Table) (side : Side) (s p n cells : ℕ) → Repeats table s p → s ≤ n
    → GoesOut table side s (s + p) cells → GoesOut table side n (n + p) cells
later_way table side s p n cells repeats late way = record {
  goes = same_way side _ _ (head_at table s) (head_at table (s + p)) cells
      (shift_is_one table s p n repeats late) way.goes;
}

back_by : (x y : ℤ) (j d : ℕ) → y ≡ pos (j + d) → y ≡ x +ℤ pos d → x ≡ pos j
back_by x y j d at goes = omega (arith, ints)

-- a period after a record that is late enough there is one
next_record : ShortOfRecord → (table : Table) (side : Side) (s p j n cells : ℕ) → Repeats table s p
    → GoesOut table side s (s + p) cells → s + p ≤ n → IsRecord table side j n
    → IsRecord table side (j + cells) (n + p)
next_record short table side s p j n cells repeats way late made =
    let here = steps_of_never table repeats.never (n + p) in
    let head = head_at-is table (n + p) here.here here.exists in
    let goes = (later_way table side s p n cells repeats (omega (arith, late)) way).goes in
    record {
      positive = let some = made.positive in omega (arith, some);
      here = here.here;
      exists = here.exists;
      on_position = ap (out side) (sym head) ∙ on_it _ _ j cells (stands_on table side j n made) goes;
      is_first = λ m less at. elim (cases_lt m n) [
        | inl before ↦ too_far _ j cells (short table side j n made m before) at
        | inr after ↦
            let some = repeats.some in
            let back : (m - p) + p ≡ m = omega (arith, after, late) in
            let step = later_way table side s p (m - p) cells repeats (omega (arith, after, late)) way in
            made.is_first (m - p) (omega (arith, less, some, after, late))
            (back_by _ _ j cells at (sym (ap (λ i. out side (head_at table i)) back) ∙ step.goes))
      ];
    }

agreeing : ShortOfRecord → (table : Table) (side : Side) (s p j n cells : ℕ) → Repeats table s p
    → GoesOut table side s (s + p) cells → s + p ≤ n → IsRecord table side j n
    → AgreeingRecords table side n (n + p)
agreeing short table side s p j n cells repeats way late made = record {
  in_order = let some = repeats.some in omega (arith, some);
  first_number = j;
  second_number = j + cells;
  first_record = made;
  second_record = next_record short table side s p j n cells repeats way late made;
  agree = agrees_after_period table side n p (later table s p n repeats (omega (arith, late)));
}

shift_goes : (side other : Side) (x y shift : ℤ) (c : ℕ) → shift ≡ y -ℤ x → pos 0 <ℤ out side shift
    → out other y ≡ out other x +ℤ pos c → side ≡ other
shift_goes L L x y shift c is more goes = refl
shift_goes R R x y shift c is more goes = refl
shift_goes L R x y shift c is more goes = absurd (omega (arith, ints))
shift_goes R L x y shift c is more goes = absurd (omega (arith, ints))

pub late_records_are_pairs : ShortOfRecord → LateRecordsArePairs
late_records_are_pairs short table side s p j n shift repeats is more late made =
    let here = has_way table s (s + p) in
    let same = shift_goes side here.side (head_at table s) (head_at table (s + p)) shift here.cells is more
    here.way.goes in
    let way = subst (λ one. GoesOut table one s (s + p) here.cells) (sym same) here.way in
    (agreeing short table side s p j n here.cells repeats way late made, tt)

-- ---- such a record exists

-- the head is at most n cells in on a side after n steps
near : (table : Table) (side : Side) (never : Never table) (n : ℕ)
    → pos 0 ≤ℤ (out side (head_at table n) +ℤ pos n)
near table side never zero =
    let e = head_at-is table 0 start (conf-start table) in
    subst (λ x. pos 0 ≤ℤ (out side x +ℤ pos 0)) (sym e) (at_start side) where
      at_start : (one : Side) → pos 0 ≤ℤ (out one (pos 0) +ℤ pos 0)
      at_start L = omega (arith, ints)
      at_start R = omega (arith, ints)
near table side never (suc n) =
    let before = near table side never n in
    let step = falls table side n never in
    further _ _ n before step where
      further : (a b : ℤ) (k : ℕ) → pos 0 ≤ℤ (a +ℤ pos k) → a ≤ℤ (b +ℤ pos 1) → pos 0 ≤ℤ (b +ℤ pos (suc k))
      further a b k h step = omega (arith, ints)

opposite : Side → Side
opposite L = R
opposite R = L

-- the position so many cells out
position : Side → ℕ → ℤ
position L j = neg_ℤ (pos j)
position R j = pos j

out_position : (side : Side) (j : ℕ) → out side (position side j) ≡ pos j
unfolding position
out_position L j = omega (arith, ints)
out_position R j = refl

behind : (side : Side) (x y : ℤ) → out side y ≤ℤ out side x → out (opposite side) x ≤ℤ out (opposite side) y
unfolding opposite
behind L x y h = omega (arith, ints)
behind R x y h = omega (arith, ints)

not_beyond : (side : Side) (x y : ℤ) → out side x ≤ℤ out side y
    → out (opposite side) x <ℤ out (opposite side) y → ⊥
unfolding opposite
not_beyond L x y h more = omega (arith, ints)
not_beyond R x y h more = omega (arith, ints)

start_behind : (side : Side) (x : ℤ) (j : ℕ) → x ≡ pos 0 → out side x ≤ℤ pos j
start_behind L x j e = omega (arith, ints)
start_behind R x j e = omega (arith, ints)

-- a run that gets j cells out makes record j
reaches : (table : Table) (side : Side) (never : Never table) (j k : ℕ) → 0 < j
    → pos j ≤ℤ out side (head_at table k) → (n : ℕ) × IsRecord table side j n
reaches table side never j k some far_out = by_visit (visited_or_not table 0 (suc k) (position side j)) where
  x : ℤ
  x = position side j

  begins : out (opposite side) x ≤ℤ out (opposite side) (head_at table 0)
  begins = behind side x (head_at table 0)
      (subst (λ y. out side (head_at table 0) ≤ℤ y) (sym (out_position side j))
      (start_behind side (head_at table 0) j (head_at-is table 0 start (conf-start table))))

  by_visit : IsFirstVisit table 0 (suc k) x ⊎ ((i : ℕ) → i < suc k → x ≡ head_at table (0 + i) → ⊥)
      → (n : ℕ) × IsRecord table side j n
  by_visit (inl first) =
      let here = steps_of_never table never first.at in
      let n : 0 + first.at ≡ first.at = omega arith in
      let head = head_at-is table first.at here.here here.exists in (
        first.at,
        record {
          positive = some;
          here = here.here;
          exists = here.exists;
          on_position = ap (out side) (sym head ∙ ap (head_at table) (sym n) ∙ sym first.here)
              ∙ out_position side j;
          is_first = λ m less at.
              let e : 0 + m ≡ m = omega arith in
              first.none m less (same_out side x (head_at table (0 + m))
              (out_position side j ∙ sym at ∙ ap (λ i. out side (head_at table i)) (sym e)));
        },
      )
  by_visit (inr none) =
      let e : 0 + k ≡ k = omega arith in
      absurd (not_beyond side x (head_at table k)
      (subst (λ y. y ≤ℤ out side (head_at table k)) (sym (out_position side j)) far_out)
      (subst (λ i. out (opposite side) x <ℤ out (opposite side) (head_at table i)) e
      (stays_above table (opposite side) never 0 k x begins none k (omega arith))))

far_enough : (x y : ℤ) (s k c j : ℕ) → pos 0 ≤ℤ (x +ℤ pos s) → y ≡ x +ℤ pos c → k ≤ c → j + s ≤ k
    → pos j ≤ℤ y
far_enough x y s k c j near_start goes many far = omega (arith, ints)

pub repeats_have_pairs : ShortOfRecord → RepeatsHavePairs
repeats_have_pairs short table s p repeats =
    let here = has_way table s (s + p) in by_cells here.side here.cells here.way where
      by_cells : (side : Side) (cells : ℕ) → GoesOut table side s (s + p) cells
          → Claim table (Cycler s (s + p))
          ⊎ ((one : Side) × (n : ℕ) × (s ≤ n) × Claim table (Translated one n (n + p) None))
      by_cells side zero way =
          inl (
            let some = repeats.some in omega (arith, some),
            comes_again table s p repeats
                (goes_nowhere (head_at table s) (head_at table (s + p)) side way.goes),
          )
      by_cells side (suc c) way =
          let j = (s + p) + 1 in
          let k = j + s in
          let onward = goes_each_period table side s p (suc c) repeats way k s (omega arith) in
          let many : k ≤ k * suc c = le-mul_of_pos_right k (omega arith) in
          let made = reaches table side repeats.never j (s + k * p) (omega arith)
          (far_enough _ _ s k (k * suc c) j (near table side repeats.never s) onward.goes many
          (omega arith)) in
          let late = record_takes_steps table side j made.0 made.1 in
          inr (
            side,
            made.0,
            omega (arith, late),
            (agreeing short table side s p j made.0 (suc c) repeats way (omega (arith, late)) made.1, tt),
          )
