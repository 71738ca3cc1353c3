-- How far out the head is at most, and which steps make records: those that go farther out than all before,
-- which are those, not into Z, that widen the window on that side.
use Rattle.std.proofs.Common.{◌≡◌, ℕ, ◌+◌, ◌≤◌, inl, inr, Option, Some, None, ℤ, pos, negsuc}
use Rattle.std.proofs.Common.{◌+ℤ◌, ◌-ℤ◌, ◌≤ℤ◌, refl, ap, sym, subst, ◌∙◌, add-one, arith}
use Rattle.std.specs.Prelude.{◌≢◌, ◌<ℤ◌}
use Rattle.std.specs.Int.{int_min, int_max}
use Rattle.std.proofs.lemmas.Bool.{cases_lt}
use Rattle.std.proofs.lemmas.Int.{ints, clamps, by_lt_z}
use Rattle.bb_machine.specs.declared.entry.Next.TheVariants.{Halt}
use Rattle.bb_machine.specs.Machine.{Table}
use Rattle.bb_tape.specs.TapeView.{TapeView}
use Rattle.bb_sim.specs.declared.runner.Runner.{Runner}
use Rattle.bb_sim.specs.CellsBetween.{cells_between}
use Rattle.bb_sim.specs.Laws.{IsRunningAt}
use Rattle.bb_sim.specs.Run.{Exists}
use Rattle.bb_sim.specs.Runner.{Stands, high_of, low_of, position_of, state_of, steps_of}
use Rattle.bb_sim.specs.Span.{counted_head, counted_position, greatest, least}
use Rattle.bb_sim.specs.Configuration.{start}
use Rattle.bb_sim.proofs.Facts.{
  cells_between-is,
  conf-start,
  counted_head-at,
  counted_running,
  greatest_bounds,
  greatest-next,
  least_bounds,
}
use Rattle.bb_sim.proofs.Facts.{least-next, span_is_reached}
use Rattle.bb_cert.specs.declared.verdict.Side.{Side}
use Rattle.bb_cert.specs.declared.verdict.Side.TheVariants.{L, R}
use Rattle.bb_cert.specs.inside.Checks.{MakesRecord}
use Rattle.bb_cert.specs.records.Follow.{IsTop, TellsWidening}
use Rattle.bb_cert.specs.records.Record.{out, head_at, IsRecord}
use Rattle.bb_cert.proofs.record_lemmas.Heads.{head_in_window, runs_before, runs_up_to}
use Rattle.bb_cert.proofs.record_lemmas.Positions.{climbs, head_at-is, head_at-start, out-zero, through}
use Rattle.bb_cert.proofs.record_lemmas.Records.{short_of_record, stands_on}

pub top_at_first : (table : Table) (side : Side) → IsTop table side 0 (pos 0)
top_at_first table side =
    let start : out side (head_at table 0) ≡ pos 0 = ap (out side) (head_at-start table) ∙ out-zero side in
    record {
      step = 0;
      no_later = omega arith;
      reached = start;
      bounds = λ m few. let same : 0 ≡ m = omega (arith, few) in
          subst (λ k. out side (head_at table k) ≤ℤ pos 0) same (omega (arith, ints, start));
    }

-- the next step, where the head was at most so far out
module _ (table : Table) (side : Side) (n count : ℕ) (top : IsTop table side n (pos count))
    (there : Exists table (n + 1)) where
  abbrev pub far_out : ℤ
  far_out = out side (head_at table (n + 1))

  number_next : pos count <ℤ far_out → far_out ≡ pos (count + 1)
  number_next high =
      let step : out side (head_at table (n + 1)) ≤ℤ (out side (head_at table n) +ℤ pos 1) =
      rw add-one (climbs table side n (rw add-one at there)) in
      omega (arith, ints, step, top.bounds n (omega arith), high)

  -- where it is farther out, a record is made
  pub made_next : pos count <ℤ far_out → IsRecord table side (count + 1) (n + 1)
  made_next high = record {
    positive = omega arith;
    here = there.here;
    exists = there.exists;
    on_position = ap (out side) (sym (head_at-is table (n + 1) there.here there.exists)) ∙ number_next high;
    is_first = λ m less is. omega (arith, ints, is, number_next high, top.bounds m (omega (arith, less)));
  }

  -- else none is
  pub none_next : far_out ≤ℤ pos count → MakesRecord table side (n + 1) → ⊥
  none_next low made =
      let short = short_of_record table side made.0 (n + 1) made.1 top.step (omega (arith, top.no_later)) in
      omega (arith, ints, low, short, top.reached, stands_on table side made.0 (n + 1) made.1)

  pub farther : MakesRecord table side (n + 1) → pos count <ℤ far_out
  farther made = by_lt_z (pos count) far_out (λ high. high) (λ low. absurd (none_next low made))

  pub nearer_on : (MakesRecord table side (n + 1) → ⊥) → far_out ≤ℤ pos count
  nearer_on none = by_lt_z (pos count) far_out (λ high. absurd (none (count + 1, made_next high)))
      (λ low. low)

  bounds_next : (t : ℤ) → pos count ≤ℤ t → far_out ≤ℤ t → (m : ℕ) → m ≤ n + 1
      → out side (head_at table m) ≤ℤ t
  bounds_next t old new m few = elim (cases_lt n m) [
    | inl past ↦ let same : n + 1 ≡ m = omega (arith, few, past) in
        subst (λ k. out side (head_at table k) ≤ℤ t) same new
    | inr before ↦ through _ _ _ (top.bounds m before) old
  ]

  pub top_farther : pos count <ℤ far_out → IsTop table side (n + 1) (pos (count + 1))
  top_farther high = let is = number_next high in record {
    step = n + 1;
    no_later = omega arith;
    reached = is;
    bounds = bounds_next (pos (count + 1)) (omega (arith, ints)) (omega (arith, ints, is));
  }

  pub top_stays : far_out ≤ℤ pos count → IsTop table side (n + 1) (pos count)
  top_stays low = record {
    step = top.step;
    no_later = let few = top.no_later in omega (arith, few);
    reached = top.reached;
    bounds = bounds_next (pos count) (omega (arith, ints)) low;
  }

-- ---- told by the window

abbrev pub other : Side → Side
other R = L
other L = R

-- where a window from l to g ends on a side
abbrev pub end_of : Side → ℤ → ℤ → ℤ
end_of R l g = g
end_of L l g = l

-- where that of a run ends
abbrev pub end : Table → Side → ℕ → ℤ
end table side n = end_of side (least (counted_head table) n) (greatest (counted_head table) n)

out_within : (side : Side) (l g p : ℤ) → (l ≤ℤ p) × (p ≤ℤ g) → out side p ≤ℤ out side (end_of side l g)
out_within R l g p inside = inside.1
out_within L l g p inside = omega (arith, ints, inside.0)

-- the head stood there
end_is_reached : (table : Table) (side : Side) (n : ℕ)
    → (m : ℕ) × (m ≤ n) × IsRunningAt table m (end table side n)
end_is_reached table R n = let span = span_is_reached table n in (span.high_step, span.high_before, span.high)
end_is_reached table L n = let span = span_is_reached table n in (span.low_step, span.low_before, span.low)

-- outside Z that is as far out as the head ever was
at_end : (table : Table) (side : Side) (n : ℕ) → IsRunningAt table n (head_at table n)
    → IsTop table side n (out side (end table side n))
at_end table side n runs = let reached = end_is_reached table side n in let there = reached.2 in record {
  step = reached.0;
  no_later = reached.1;
  reached = ap (out side) (head_at-is table reached.0 there.here there.exists ∙ there.at);
  bounds = λ m few. out_within side _ _ _ (head_in_window table m n few (runs_up_to table m n few runs));
}

natural : (z : ℤ) → pos 0 ≤ℤ z → (n : ℕ) × (z ≡ pos n)
natural (pos n) h = (n, refl)
natural (negsuc n) h = absurd (omega (arith, ints, h))

-- so a step that goes beyond makes a record of that side, and no other does
module _ (table : Table) (side : Side) (n : ℕ) (runs : IsRunningAt table n (head_at table n))
    (there : Exists table (n + 1)) where
  count : (k : ℕ) × (out side (end table side n) ≡ pos k)
  count = natural _ (subst (λ z. z ≤ℤ out side (end table side n)) (ap (out side) (head_at-start table)
      ∙ out-zero side) ((at_end table side n runs).bounds 0 (omega arith)))

  top_is : IsTop table side n (pos count.0)
  top_is = subst (IsTop table side n) count.1 (at_end table side n runs)

  made_beyond : out side (end table side n) <ℤ out side (head_at table (n + 1))
      → MakesRecord table side (n + 1)
  made_beyond beyond = (count.0 + 1, made_next table side n count.0 top_is there (rw (← count.1) beyond))

  none_within : out side (head_at table (n + 1)) ≤ℤ out side (end table side n)
      → MakesRecord table side (n + 1) → ⊥
  none_within within = none_next table side n count.0 top_is there (rw (← count.1) within)

-- ---- how a window that takes in a position widens

-- a runner whose window takes in p beside that from l to g, which had so many cells
module _ (after : Runner) (p : ℤ) {l g : ℤ} {cells : ℕ} (around : (l ≤ℤ pos 0) × (pos 0 ≤ℤ g))
    (low_is : low_of after ≡ int_min l p) (high_is : high_of after ≡ int_max g p)
    (were : cells ≡ cells_between l g) where
  had : pos cells ≡ (g -ℤ l) +ℤ pos 1
  had = ap pos were ∙ cells_between-is l g (omega (arith, ints, around.0, around.1))

  has : pos (cells_between (low_of after) (high_of after)) ≡ (high_of after -ℤ low_of after) +ℤ pos 1
  has = cells_between-is (low_of after) (high_of after) (omega (arith, ints, clamps, around.0, around.1))

  same_cells : (l ≤ℤ p) × (p ≤ℤ g) → cells_between (low_of after) (high_of after) ≡ cells
  same_cells inside = omega (arith, ints, clamps, inside.0, inside.1, had, has)

  inside : TellsWidening after cells None → (l ≤ℤ p) × (p ≤ℤ g)
  inside same = omega (arith, ints, clamps, around, had, has)

  -- beyond one end, and so within the other
  beyond : position_of after ≡ p → (side : Side) → TellsWidening after cells (Some side)
      → (out side (end_of side l g) <ℤ out side p)
      × (out (other side) p ≤ℤ out (other side) (end_of (other side) l g))
  beyond is R claimed =
      let above : g <ℤ p = omega (arith, ints, clamps, claimed, around, had, has) in
      omega (arith, ints, above, around)
  beyond is L claimed =
      let below : p <ℤ l = omega (arith, ints, clamps, claimed, around, had, has) in
      omega (arith, ints, below, around)

-- step n makes a record of this side and of no other; of none
abbrev pub MakesJust : Table → ℕ → Option Side → Type 0
MakesJust table n None = (side : Side) → MakesRecord table side n → ⊥
MakesJust table n (Some side) = MakesRecord table side n × (MakesRecord table (other side) n → ⊥)

-- a runner that has made a step, and how its window was before
module _ {table : Table} {before after : Runner} {run_before run_after : TapeView}
    (stood : Stands table before run_before) (stands : Stands table after run_after)
    (next : steps_of after ≡ steps_of before + 1) where
  abbrev n : ℕ
  n = steps_of before

  abbrev low : ℤ
  low = end table L n

  abbrev high : ℤ
  high = end table R n

  there : Exists table (n + 1)
  there = subst (Exists table) next (record { here = _; exists = stands.at })

  around : (low ≤ℤ pos 0) × (pos 0 ≤ℤ high)
  around = subst (λ z. (low ≤ℤ z) × (z ≤ℤ high)) (counted_head-at table 0 start (conf-start table)) (
    least_bounds (counted_head table) 0 n (omega arith),
    greatest_bounds (counted_head table) 0 n (omega arith),
  )

  -- the position that its step counts
  counted : counted_head table (n + 1) ≡ counted_position (state_of after) (position_of after)
  counted = ap (counted_head table) (sym next) ∙ counted_head-at table (steps_of after) _ stands.at

  low_is : (p : ℤ) → counted_position (state_of after) (position_of after) ≡ p → low_of after ≡ int_min low p
  low_is p at = stands.low ∙ ap (least (counted_head table)) next ∙ least-next (counted_head table) n
      ∙ ap (int_min low) (counted ∙ at)

  high_is : (p : ℤ) → counted_position (state_of after) (position_of after) ≡ p → high_of after
      ≡ int_max high p
  high_is p at = stands.high ∙ ap (greatest (counted_head table)) next ∙ greatest-next (counted_head table) n
      ∙ ap (int_max high) (counted ∙ at)

  cells_were : cells_between (low_of before) (high_of before) ≡ cells_between low high
  cells_were = ap (λ l. cells_between l (high_of before)) stood.low ∙ ap (cells_between low) stood.high

  -- outside Z
  module _ (runs : state_of after ≢ Halt) where
    at : counted_position (state_of after) (position_of after) ≡ position_of after
    at = counted_running (state_of after) (position_of after) runs

    head : head_at table (n + 1) ≡ position_of after
    head = ap (head_at table) (sym next) ∙ head_at-is table (steps_of after) _ stands.at

    running : IsRunningAt table n (head_at table n)
    running = runs_before table n (n + 1) (omega arith) there

    makes : (side : Side) → out side (end table side n) <ℤ out side (position_of after)
        → MakesRecord table side (n + 1)
    makes side beyond = made_beyond table side n running there (rw head beyond)

    makes_none : (side : Side) → out side (position_of after) ≤ℤ out side (end table side n)
        → MakesRecord table side (n + 1) → ⊥
    makes_none side within = none_within table side n running there (rw head within)

    pub makes_just : {cells : ℕ} → cells ≡ cells_between (low_of before) (high_of before)
        → (claimed : Option Side) → TellsWidening after cells claimed → MakesJust table (n + 1) claimed
    makes_just were None same = λ side. makes_none side (out_within side low high (position_of after)
        (inside after _ around (low_is _ at) (high_is _ at) (were ∙ cells_were) same))
    makes_just were (Some side) claimed =
        let is = beyond after _ around (low_is _ at) (high_is _ at) (were ∙ cells_were) refl side claimed in
        (makes side is.0, makes_none (other side) is.1)

  -- into Z nothing widens
  pub none_wider : state_of after ≡ Halt → (cells : ℕ) → cells ≡ cells_between (low_of before)
      (high_of before) → (side : Side) → TellsWidening after cells (Some side) → ⊥
  none_wider halts cells were side claimed =
      let at = ap (λ s. counted_position s (position_of after)) halts in
      let same = same_cells after _ around (low_is _ at) (high_is _ at) (were ∙ cells_were) around in
      elim side as (λ s. TellsWidening after cells (Some s) → ⊥) [ R ↦ λ is. is.0 same | L ↦ λ is. is.0 same ]
      claimed
