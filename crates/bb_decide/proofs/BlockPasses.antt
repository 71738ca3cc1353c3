-- Steps of the single-pass run inside a block, over a runner and a view that are in the proof alone.
use Rattle.std.proofs.Common.{◌≡◌, ◌≢◌, ℕ, ◌+◌, ◌%◌, ◌^◌, ◌<◌, ◌≤◌, inl, inr, ℤ, pos, negsuc, ◌+ℤ◌, ◌-ℤ◌}
use Rattle.std.proofs.Common.{◌≤ℤ◌, ◌<ℤ◌, refl, ap, sym, subst, ◌∙◌, arith, FitsSigned, of_z, to_z, w64, None}
use Rattle.std.specs.Prelude.{bit_xor, min, max, unsigned_abs, ◌⊎◌}
use Rattle.std.proofs.lemmas.Nat.Bits.{bit_at-lt, bit_at-zero, bit_at_xor}
use Rattle.std.specs.Int.{bit_at, int_max, int_min}
use Rattle.std.proofs.lemmas.Bool.{cases_eq}
use Rattle.std.proofs.lemmas.Int.{ints, clamps, by_lt_z, to_z-of_z}
use Rattle.bb_machine.specs.Limits.{Bounds}
use Rattle.bb_machine.specs.Machine.{IsMachine, Table}
use Rattle.bb_tape.specs.declared.tape.TheConstants.{MAX_CELLS}
use Rattle.bb_tape.specs.Content.{Content, cell, with_cell}
use Rattle.bb_tape.specs.TapeView.{TapeView}
use Rattle.bb_tape.proofs.Facts.{abs_is, cell-with_cell-other, cell-with_cell-same, put_back, same_content}
use Rattle.bb_sim.specs.CellsBetween.{cells_between}
use Rattle.bb_sim.specs.Configuration.{Configuration}
use Rattle.bb_sim.specs.declared.runner.Runner.{Runner}
use Rattle.bb_sim.specs.Runner.{Stands, high_of, low_of, position_of, state_of, steps_of}
use Rattle.bb_sim.specs.Span.{Inside}
use Rattle.bb_sim.proofs.Facts.{inside_here}
use Rattle.bb_registers.specs.Blocks.{IsBlockRun}
use Rattle.bb_registers.specs.declared.blocks.Barrier.{Barrier}
use Rattle.bb_registers.specs.declared.blocks.BlockRun.{BlockRun}
use Rattle.bb_machine.specs.declared.packed.PackedTable.{PackedTable}
use Rattle.bb_machine.specs.Packed.{IsTableOf}
use Rattle.bb_registers.proofs.Facts.{steps_in_block}
use Rattle.bb_cert.specs.declared.records.Records.{Records}
use Rattle.bb_cert.specs.declared.verdict.Side.{Side}
use Rattle.bb_cert.specs.declared.verdict.Side.TheVariants.{L, R}
use Rattle.bb_cert.specs.records.Follow.{nearer, passed}
use Rattle.bb_decide.specs.Fingerprint.{fingerprint}
use Rattle.bb_decide.specs.inside.BlockPasses.{ChangesTo, IsBarrier, IsBlockPass}
use Rattle.bb_decide.specs.inside.Searching.{IsInRecordSearch, IsInSinglePass, IsUnderWay}
use Rattle.bb_decide.specs.inside.Fingerprints.{AreAsKept, KeepInTurn}
use Rattle.bb_decide.specs.inside.Step.{HasMoved}
use Rattle.bb_decide.specs.declared.single_pass.Fingerprints.{Fingerprints}
use Rattle.bb_decide.specs.declared.single_pass.SinglePass.{SinglePass}
use Rattle.bb_decide.specs.declared.sprint.Sprint.{Sprint}
use Rattle.bb_decide.specs.inside.Sprints.{GoesOn, SprintsTo, Stays}
use Rattle.bb_decide.proofs.Halting.{not_in_Z}
use Rattle.bb_decide.proofs.RegisterCells.{pow_max, pow_min}
use Rattle.bb_decide.proofs.SinglePass.{single_pass_on}
use Rattle.bb_decide.proofs.Translations.{HasPassedBoth, goes_on, looks_at_none, takes_in}

abbrev configuration_of : Runner → TapeView → Configuration
configuration_of runner view =
    record { state = state_of runner; head = position_of runner; tape = view.content }

-- who stand at the same step are in the same configuration
pub at_same : {table : Table} {one other : Runner} {view_one view_other : TapeView} → Stands table one view_one
    → Stands table other view_other → steps_of one ≡ steps_of other
    → configuration_of one view_one ≡ configuration_of other view_other
at_same {table} {one} {other} stands there same =
    let a = rw same at stands.at in
    let b = there.at in
    cc

-- and the searches are as far
search_as : {table : Table} {bounds : Bounds} {one other : Runner} {view_one view_other right left : TapeView}
    {one_right one_left other_right other_left : Records} → Stands table other view_other
    → steps_of other ≡ steps_of one → other_right ≡ one_right → other_left ≡ one_left
    → IsInRecordSearch table bounds one view_one one_right one_left right left
    → IsInRecordSearch table bounds other view_other other_right other_left right left
search_as stands same on_right on_left known = record {
  stands = stands;
  within = omega (arith, same, known.within);
  searched = rw (same, on_right, on_left) known.searched;
  none = rw same known.none;
}

pass_as : {table : Table} {bounds : Bounds} {key : ℤ → ℕ} {one other : Runner} {view_one view_other : TapeView}
    (old : Fingerprints) (current : ℕ) → Stands table other view_other → steps_of other ≡ steps_of one
    → current ≡ fingerprint key view_other.content
    → IsInSinglePass table bounds key one view_one old
    → IsInSinglePass table bounds key other view_other (record old { current = current })
pass_as old current stands same is known = record {
  kept_view = known.kept_view;
  search = record {
    stands = stands;
    within = omega (arith, same, known.search.within);
    kept_stands = known.search.kept_stands;
    partner = rw same known.search.partner;
    none = rw same known.search.none;
  };
  current_is = is;
  kept_fingerprint_is = known.kept_fingerprint_is;
  next = known.next;
  none_alike = rw same known.none_alike;
  running = λ halts. known.running (ap (λ (c : Configuration). c.state) (at_same known.search.stands stands (sym same)) ∙ halts);
  wide = rw same known.wide;
}

-- two positions passed are one
passed_right : (records : Records) → records.side ≡ R → (p q : ℤ)
    → passed records (int_min p q) ≡ passed (passed records p) q
passed_right records side p q = ap (λ z. record records { nearest = z }) nearest where
  nearest : nearer records.side records.nearest (int_min p q)
      ≡ nearer records.side (nearer records.side records.nearest p) q
  nearest = rw side (omega (arith, ints, clamps))

passed_left : (records : Records) → records.side ≡ L → (p q : ℤ)
    → passed records (int_max p q) ≡ passed (passed records p) q
passed_left records side p q = ap (λ z. record records { nearest = z }) nearest where
  nearest : nearer records.side records.nearest (int_max p q)
      ≡ nearer records.side (nearer records.side records.nearest p) q
  nearest = rw side (omega (arith, ints, clamps))

nearer_again : (side : Side) (n q : ℤ) → nearer side (nearer side n q) q ≡ nearer side n q
nearer_again R n q = omega (arith, ints, clamps)
nearer_again L n q = omega (arith, ints, clamps)

-- where the head was passed already
pub passed_again : (old new : Records) (p q : ℤ) → FitsSigned w64 p → p ≡ q → new ≡ passed old (to_z w64 (of_z w64 p))
    → passed new q ≡ new
passed_again old new p q fits at is =
    let here : new ≡ passed old q = is ∙ ap (passed old) (to_z-of_z w64 _ fits ∙ at) in
    rw here (ap (λ z. record old { nearest = z }) (nearer_again old.side old.nearest q))

least_at : (from : ℤ) (a b : ℕ) → from +ℤ pos (min a b) ≡ int_min (from +ℤ pos a) (from +ℤ pos b)
least_at from a b = omega (arith, ints, clamps)

greatest_at : (from : ℤ) (a b : ℕ) → from +ℤ pos (max a b) ≡ int_max (from +ℤ pos a) (from +ℤ pos b)
greatest_at from a b = omega (arith, ints, clamps)

-- a position about a window is a number of the machine
pub small_fits : (z : ℤ) → (pos 0 -ℤ pos (MAX_CELLS + 64)) ≤ℤ z → z ≤ℤ pos (MAX_CELLS + 64) → FitsSigned w64 z
small_fits (pos n) a b = record { sfits = omega (arith, ints) }
small_fits (negsuc n) a b = record { sfits = omega (arith, ints) }

-- so is that of the head in a block, or of any cell there
pub cell_fits : {table : Table} {bounds : Bounds} {from : ℤ} {tape : TapeView} {run : BlockRun}
    → IsBlockRun table bounds from tape run → (k : ℕ) → k < 64 → FitsSigned w64 (from +ℤ pos k)
cell_fits known k h =
    small_fits _
    (omega (arith, ints, known.block.low, known.sound.to_zero, known.sound.within, known.sound.limited))
    (omega (arith, ints, h, known.block.high, known.sound.from_zero, known.sound.within, known.sound.limited))

-- the position of a bit of the block, as it is computed
pub bit_position : {table : Table} {bounds : Bounds} {from : ℤ} {tape : TapeView} {run : BlockRun}
    → IsBlockRun table bounds from tape run → (k : ℕ) → k < 64 → (r : ℤ) → r ≡ pos k -ℤ pos 32
    → to_z w64 (of_z w64 (from +ℤ pos 32)) +ℤ to_z w64 (of_z w64 r) ≡ from +ℤ pos k
bit_position known k h r is =
    omega (
      arith,
      ints,
      is,
      h,
      known.block.low,
      known.block.high,
      known.sound.from_zero,
      known.sound.to_zero,
      known.sound.within,
      known.sound.limited,
    )

-- a step inside the block, before the barrier
module _ {table : Table} {bounds : Bounds} {key : ℤ → ℕ} {from : ℤ} {tape right left : TapeView} {begun : SinglePass}
    {old : Sprint} {barrier : Barrier} (new : Sprint)
    (known : IsBlockPass table bounds key from tape right left begun old)
    (is_barrier : IsBarrier bounds from begun.fingerprints barrier)
    (after : IsBlockRun table bounds from tape new.run)
    (stepped : new.run.steps ≡ old.run.steps + 1)
    (before : old.run.steps < barrier.to)
    (apart : new.run.registers.head ≡ barrier.head → new.run.registers.entry % 64 ≡ barrier.entry → ⊥)
    (least_is : new.least ≡ min old.least new.run.registers.head)
    (greatest_is : new.greatest ≡ max old.greatest new.run.registers.head) where
  moved : HasMoved table known.run.runner after.runner after.view
  moved = record {
    view_before = known.run.view;
    stood = known.run.stands;
    stands = after.stands;
    next = omega (arith, after.steps_is, known.run.steps_is, stepped);
    running = not_in_Z after.state_is;
  }

  inside : Inside table bounds (steps_of after.runner)
  inside =
      inside_here table after.runner after.view bounds after.stands after.sound after.cells
      (omega (arith, after.steps_is, after.few))

  low_same : low_of after.runner ≡ low_of known.run.runner
  low_same = sym after.stands.window_low ∙ after.low ∙ sym known.run.low ∙ known.run.stands.window_low

  high_same : high_of after.runner ≡ high_of known.run.runner
  high_same = sym after.stands.window_high ∙ after.high ∙ sym known.run.high ∙ known.run.stands.window_high

  same_cells : cells_between (low_of after.runner) (high_of after.runner)
      ≡ cells_between (low_of known.run.runner) (high_of known.run.runner)
  same_cells =
      ap (λ z. cells_between z (high_of after.runner)) low_same
      ∙ ap (cells_between (low_of known.run.runner)) high_same

  fits : FitsSigned w64 (position_of after.runner)
  fits = subst (FitsSigned w64) (sym after.position) (cell_fits after after.place after.within)

  there : from +ℤ pos after.place ≡ to_z w64 (of_z w64 (position_of after.runner))
  there = sym after.position ∙ sym (to_z-of_z w64 _ fits)

  on_right : passed begun.right (from +ℤ pos (min known.least after.place))
      ≡ passed (passed begun.right (from +ℤ pos known.least)) (to_z w64 (of_z w64 (position_of after.runner)))
  on_right =
      ap (passed begun.right) (least_at from known.least after.place)
      ∙ passed_right begun.right known.search.searched.right_is (from +ℤ pos known.least) (from +ℤ pos after.place)
      ∙ ap (passed (passed begun.right (from +ℤ pos known.least))) there

  on_left : passed begun.left (from +ℤ pos (max known.greatest after.place))
      ≡ passed (passed begun.left (from +ℤ pos known.greatest)) (to_z w64 (of_z w64 (position_of after.runner)))
  on_left =
      ap (passed begun.left) (greatest_at from known.greatest after.place)
      ∙ passed_left begun.left known.search.searched.left_is (from +ℤ pos known.greatest) (from +ℤ pos after.place)
      ∙ ap (passed (passed begun.left (from +ℤ pos known.greatest))) there

  printed : Fingerprints
  printed = record begun.fingerprints { current = fingerprint key after.view.content }

  differs : AreAsKept (record begun.fingerprints { current = fingerprint key after.view.content }) after.runner → ⊥
  differs same =
      apart (after.head ∙ sym (is_barrier.head after.place after.within (sym same.2 ∙ after.position)))
      (after.entry ∙ sym (is_barrier.entry after.state (sym same.1 ∙ after.state_is)))

  pub step_in_block : IsBlockPass table bounds key from tape right left begun new
  step_in_block = record {
    run = after;
    least = min known.least after.place;
    least_small = omega (arith, after.within);
    least_is = least_is ∙ ap (λ n. min n new.run.registers.head) known.least_is
        ∙ ap (min (2 ^ known.least)) after.head ∙ pow_min known.least after.place;
    greatest = max known.greatest after.place;
    greatest_small = omega (arith, known.greatest_small, after.within);
    greatest_is = greatest_is ∙ ap (λ n. max n new.run.registers.head) known.greatest_is
        ∙ ap (max (2 ^ known.greatest)) after.head ∙ pow_max known.greatest after.place;
    search = goes_on known.search moved inside
        (looks_at_none (takes_in known.search.searched moved refl None same_cells fits refl on_right fits refl on_left)
        refl);
    single_pass = single_pass_on known.single_pass moved inside refl refl differs
        (inl (omega (arith, after.steps_is, stepped, before, is_barrier.before), refl));
  }

-- steps inside the block
pub sprint_in_block : {table : Table} {bounds : Bounds} {key : ℤ → ℕ} {from : ℤ} {tape right left : TapeView}
    {begun : SinglePass} {packed : PackedTable} {barrier : Barrier} {old new : Sprint} → IsMachine table
    → IsTableOf table packed → IsBarrier bounds from begun.fingerprints barrier
    → IsBlockPass table bounds key from tape right left begun old → SprintsTo packed barrier old new
    → IsBlockPass table bounds key from tape right left begun new
sprint_in_block machine is_table is_barrier begins Stays = begins
sprint_in_block machine is_table is_barrier begins (GoesOn middle next so_far on) =
    let known = sprint_in_block machine is_table is_barrier begins so_far in
    let step = on.step in
    step_in_block next known is_barrier (steps_in_block machine is_table known.run step is_barrier.few) step.steps
    step.before step.apart on.least on.greatest

-- make no fewer steps
pub sprint_more : {packed : PackedTable} {barrier : Barrier} {old new : Sprint} → SprintsTo packed barrier old new
    → old.run.steps ≤ new.run.steps
sprint_more Stays = omega arith
sprint_more (GoesOn middle next so_far on) = omega (arith, sprint_more so_far, on.step.steps)

-- the block just taken
pub begin_block : {table : Table} {bounds : Bounds} {key : ℤ → ℕ} {from : ℤ} {tape right left : TapeView}
    {begun : SinglePass} {run : BlockRun} → IsUnderWay table bounds key begun tape right left
    → IsBlockRun table bounds from tape run → run.steps ≡ steps_of begun.runner
    → passed begun.right (position_of begun.runner) ≡ begun.right
    → passed begun.left (position_of begun.runner) ≡ begun.left
    → IsBlockPass table bounds key from tape right left begun
    (record { run = run; least = run.registers.head; greatest = run.registers.head })
begin_block {begun = begun} way known steps on_right on_left =
    let same : steps_of known.runner ≡ steps_of begun.runner = sym known.steps_is ∙ steps in
    let here = sym known.position
    ∙ ap (λ (c : Configuration). c.head) (at_same known.stands way.search.stands same) in
    record {
      run = known;
      least = known.place;
      least_small = known.within;
      least_is = known.head;
      greatest = known.place;
      greatest_small = known.within;
      greatest_is = known.head;
      search = search_as known.stands same (ap (passed begun.right) here ∙ on_right)
          (ap (passed begun.left) here ∙ on_left) way.search;
      single_pass = pass_as _ _ known.stands same refl way.single_pass;
    }

-- the cells of the block, before and after
pub changes : {table : Table} {bounds : Bounds} {from : ℤ} {tape new : TapeView} {first last : BlockRun}
    {start runner : Runner} → (begins : IsBlockRun table bounds from tape first)
    → (ends : IsBlockRun table bounds from tape last) → Stands table start tape → first.steps ≡ steps_of start
    → Stands table runner new → steps_of runner ≡ last.steps
    → ChangesTo from first.registers.bits last.registers.bits tape.content new.content
changes {tape = tape} {new = new} begins ends stood first stands last =
    let one = ap (λ (c : Configuration). c.tape) (at_same stood begins.stands (sym first ∙ begins.steps_is)) in
    let other = ap (λ (c : Configuration). c.tape) (at_same stands ends.stands (last ∙ ends.steps_is)) in
    record {
      was = λ k h. rw one (begins.bits k h);
      is = λ k h. rw other (ends.bits k h);
      rest = λ p out. rw other (ends.rest p out);
    }

-- a content some of whose cells are still to be changed in a block
pub record IsHalfway (from : ℤ) (old new todo_bits : ℕ) (one middle : Content) : Type 0 where
  pub was : (k : ℕ) → k < 64 → cell one (from +ℤ pos k) ≡ bit_at old k
  pub done : (k : ℕ) → k < 64 → bit_at todo_bits k ≡ 0 → cell middle (from +ℤ pos k) ≡ bit_at new k
  pub todo : (k : ℕ) → k < 64 → bit_at todo_bits k ≡ 1 → cell middle (from +ℤ pos k) ≡ bit_at old k
  pub rest : (p : ℤ) → (p <ℤ from) ⊎ ((from +ℤ pos 64) ≤ℤ p) → cell middle p ≡ cell one p

-- two contents that agree inside the block and outside are the same
by_block : (from : ℤ) (a b : Content) → ((k : ℕ) → k < 64 → cell a (from +ℤ pos k) ≡ cell b (from +ℤ pos k))
    → ((p : ℤ) → (p <ℤ from) ⊎ ((from +ℤ pos 64) ≤ℤ p) → cell a p ≡ cell b p) → a ≡ b
by_block from a b here there =
    same_content _ _ (λ p.
    by_lt_z p from (λ under. there p (inl under)) (λ ge.
    by_lt_z p (from +ℤ pos 64)
    (λ lt.
    let k = unsigned_abs (p -ℤ from) in
    let is : p ≡ from +ℤ pos k = omega (arith, ints, abs_is (p -ℤ from) (omega (arith, ints, ge))) in
    let within : k < 64 = omega (arith, ints, is, lt) in
    rw is (here k within))
    (λ past. there p (inr past))))

pub halfway_first : {from : ℤ} {old new : ℕ} {one middle : Content}
    → IsHalfway from old new (bit_xor old new) one middle → one ≡ middle
halfway_first {from} {old} {new} known =
    by_block from _ _
    (λ k h. elim (cases_eq (bit_at (bit_xor old new) k) 0) [
      | inl same ↦
          let alike : bit_at old k ≡ bit_at new k =
          omega (arith, same, bit_at_xor old new k, bit_at-lt old k, bit_at-lt new k) in
          known.was k h ∙ alike ∙ sym (known.done k h same)
      | inr apart ↦ known.was k h ∙ sym (known.todo k h (omega (arith, apart, bit_at-lt (bit_xor old new) k)))
    ])
    (λ p out. sym (known.rest p out))

pub halfway_last : {from : ℤ} {old new todo_bits : ℕ} {one other : Content} → ChangesTo from old new one other
    → todo_bits ≡ 0 → IsHalfway from old new todo_bits one other
halfway_last changes is = rw is (record {
  was = changes.was;
  done = λ k h clear. changes.is k h;
  todo = λ k h set. absurd (omega (arith, set, bit_at-zero k));
  rest = changes.rest;
})

-- one cell earlier
module _ {from : ℤ} {old new todo_bits fewer place : ℕ} {one middle : Content} (small : place < 64)
    (set : bit_at todo_bits place ≡ 1) (cleared : bit_at fewer place ≡ 0)
    (others : (k : ℕ) → k ≢ place → bit_at fewer k ≡ bit_at todo_bits k)
    (known : IsHalfway from old new fewer one middle) where
  pub halfway_before : IsHalfway from old new todo_bits one (with_cell middle (from +ℤ pos place) (bit_at old place))
  halfway_before = record {
    was = known.was;
    done = λ k h clear.
        let apart : k ≢ place = λ e. omega (arith, ap (bit_at todo_bits) e, clear, set) in
        cell-with_cell-other middle (from +ℤ pos place) (bit_at old place) (from +ℤ pos k)
        (λ e. apart (omega (arith, ints, e)))
        ∙ known.done k h (others k apart ∙ clear);
    todo = λ k h yes. elim (cases_eq k place) [
      | inl same ↦ rw same (cell-with_cell-same middle (from +ℤ pos place) (bit_at old place))
      | inr apart ↦
          cell-with_cell-other middle (from +ℤ pos place) (bit_at old place) (from +ℤ pos k)
          (λ e. apart (omega (arith, ints, e)))
          ∙ known.todo k h (others k apart ∙ yes)
    ];
    rest = λ p out.
        cell-with_cell-other middle (from +ℤ pos place) (bit_at old place) p
        (λ e. omega (arith, ints, e, small, out))
        ∙ known.rest p out;
  }

-- with the cell changed again
pub changed_back : {from : ℤ} {old new fewer place : ℕ} {one middle : Content} → place < 64
    → bit_at fewer place ≡ 0 → IsHalfway from old new fewer one middle
    → with_cell (with_cell middle (from +ℤ pos place) (bit_at old place)) (from +ℤ pos place) (bit_at new place)
    ≡ middle
changed_back {from} {old} {new} {fewer} {place} {one} {middle} small cleared known =
    ap (with_cell (with_cell middle (from +ℤ pos place) (bit_at old place)) (from +ℤ pos place))
    (sym (known.done place small cleared))
    ∙ put_back middle (from +ℤ pos place) (bit_at old place)

-- the block left
pub leave_block : {table : Table} {bounds : Bounds} {key : ℤ → ℕ} {from : ℤ} {tape new right left : TapeView}
    {begun : SinglePass} {end : Sprint} {runner : Runner} {new_right new_left : Records} {current : ℕ}
    → (known : IsBlockPass table bounds key from tape right left begun end) → Stands table runner new
    → steps_of runner ≡ end.run.steps → new_right ≡ passed begun.right (from +ℤ pos known.least)
    → new_left ≡ passed begun.left (from +ℤ pos known.greatest) → current ≡ fingerprint key new.content
    → IsUnderWay table bounds key
    (record {
      runner = runner;
      right = new_right;
      left = new_left;
      fingerprints = record begun.fingerprints { current = current };
    }) new right left
leave_block known stands steps on_right on_left is =
    let same = steps ∙ known.run.steps_is in
    record {
      search = search_as stands same on_right on_left known.search;
      single_pass = pass_as _ _ stands same is known.single_pass;
    }

-- a run that made a step, where both searches know it
pub is_under_way : {table : Table} {bounds : Bounds} {key : ℤ → ℕ} {before after : Runner}
    {view_before view saved_right saved_left : TapeView} {old_right old_left right left : Records}
    {old printed new : Fingerprints}
    → IsInRecordSearch table bounds before view_before old_right old_left saved_right saved_left
    → IsInSinglePass table bounds key before view_before old
    → HasMoved table before after view → Inside table bounds (steps_of after)
    → HasPassedBoth table (steps_of after) right left saved_right saved_left
    → printed ≡ record old { current = printed.current } → printed.current ≡ fingerprint key view.content
    → (AreAsKept printed after → ⊥) → KeepInTurn after printed new
    → IsUnderWay table bounds key
    (record { runner = after; right = right; left = left; fingerprints = new }) view saved_right saved_left
is_under_way search single_pass moved inside looks stays is differs keeps = record {
  search = goes_on search moved inside looks;
  single_pass = single_pass_on single_pass moved inside stays is differs keeps;
}
