-- A step of a run inside a block, over a runner and a view that are in the proof alone.
use Rattle.std.proofs.Common.{◌≡◌, ◌≢◌, ℕ, ◌+◌, ◌*◌, ◌%◌, ◌^◌, ◌<◌, ◌≤◌, inl, inr}
use Rattle.std.proofs.Common.{ℤ, pos, ◌+ℤ◌, ◌-ℤ◌, ◌≤ℤ◌, refl, ap, sym, subst, ◌∙◌, arith, negsuc, FitsSigned, w64}
use Rattle.std.proofs.Common.{bit_and}
use Rattle.std.specs.Int.Bits.{and_zero_r}
use Rattle.std.specs.Prelude.{unsigned_abs}
use Rattle.std.specs.Int.{bit_at, int_max, int_min}
use Rattle.std.proofs.lemmas.Int.{ints, by_lt_z}
use Rattle.std.proofs.lemmas.Bool.{cases_eq}
use Rattle.std.proofs.lemmas.Nat.Bits.{bit_at-lt}
use Rattle.bb_machine.specs.declared.entry.Dir.{Dir}
use Rattle.bb_machine.specs.declared.entry.Dir.TheVariants.{L, R}
use Rattle.bb_machine.specs.declared.entry.Next.TheVariants.{State}
use Rattle.bb_machine.specs.Limits.{Bounds}
use Rattle.bb_machine.specs.Machine.{IsMachine, Table, symbols_of}
use Rattle.bb_tape.specs.declared.tape.TheConstants.{MAX_CELLS}
use Rattle.bb_tape.specs.Block.{HasBits, PutsBits}
use Rattle.bb_tape.specs.Content.{cell}
use Rattle.bb_tape.specs.TapeView.{TapeView, IsInside, IsSound}
use Rattle.bb_tape.proofs.Facts.{abs_is, cell-with_cell-other, cell-with_cell-same, same_content}
use Rattle.bb_sim.specs.declared.runner.Runner.{Runner}
use Rattle.bb_sim.specs.declared.runner.Moved.{Moved}
use Rattle.bb_sim.specs.declared.runner.Moved.TheVariants as moved
use Rattle.bb_sim.specs.CellsBetween.{cells_between}
use Rattle.bb_sim.specs.Configuration.{beside}
use Rattle.bb_sim.specs.declared.meter.Meter.{Meter}
use Rattle.bb_sim.specs.Runner.{Moves, Reaches, Stands, high_of, low_of, position_of, state_of, steps_of}
use Rattle.bb_sim.proofs.Facts.{cells_between-is, counts_next, inside_fits, max-same, min-same}
use Rattle.bb_registers.specs.declared.blocks.Barrier.{Barrier}
use Rattle.bb_registers.specs.declared.blocks.BlockRun.{BlockRun}
use Rattle.bb_registers.specs.declared.run.RegisterRun.{RegisterRun}
use Rattle.bb_registers.specs.declared.registers.Registers.{Registers}
use Rattle.bb_machine.specs.declared.packed.PackedTable.{PackedTable}
use Rattle.bb_registers.specs.Blocks.{GoesOn, IsBlockOf, IsBlockRun, StepsBefore}
use Rattle.bb_machine.specs.Packed.{IsPackedEntry, IsTableOf}
use Rattle.bb_registers.specs.Registers.{ContinuesTo, IsRegisterRun, StepsTo, flipped_bits}
use Rattle.bb_registers.proofs.Bits.{at_bit}
use Rattle.bb_registers.proofs.Entries.{GoesTo, MovesTo, applies, flipped_other, flipped_same, goes_in, goes_to, packed_entry}
use Rattle.bb_registers.proofs.Entries.{symbol_at}
use Rattle.bb_registers.proofs.Moving.{CanStep, goes_on_inside, moved_on, next, sound_after, there, view_next}
use Rattle.bb_registers.proofs.TapeBits.{same_views}

-- a move between two places, wherever the block begins
beside_from : (dir : Dir) (from : ℤ) (p q : ℕ) → at_bit q ≡ beside dir (at_bit p)
    → beside dir (from +ℤ pos p) ≡ from +ℤ pos q
beside_from L from p q e = omega (arith, ints, e)
beside_from R from p q e = omega (arith, ints, e)

module _ {table : Table} {bounds : Bounds} {from : ℤ} {tape : TapeView} {run : BlockRun}
    (known : IsBlockRun table bounds from tape run) where
  symbol_is : symbol_at known.runner known.view ≡ bit_at run.registers.bits known.place
  symbol_is = ap (cell known.view.content) known.position ∙ known.bits known.place known.within

  -- the symbol is read, and the entry is looked up
  entry_in_block : {packed : PackedTable} {next : Registers} → IsTableOf table packed → StepsTo packed run.registers next
      → IsPackedEntry next.entry (symbol_at known.runner known.view) (applies table known.runner known.view)
  entry_in_block is_table by =
      rw known.state_is
      (packed_entry is_table by known.place known.state _ known.head symbol_is
      (rw known.state_is at known.stands.state_named) known.entry)

  -- the entry goes to a state, and the head stays in the block
  module _ (machine : IsMachine table) {packed : PackedTable}
      (is_table : IsTableOf table packed) {next_registers : Registers} (by : StepsTo packed run.registers next_registers)
      (on : bit_at next_registers.entry 8 ≡ 1 → ⊥) (some : next_registers.head ≢ 0) (apart : run.steps ≢ bounds.steps) where
    abbrev old : Runner
    old = known.runner

    abbrev view : TapeView
    view = known.view

    abbrev f : ℕ
    f = next_registers.entry

    goes : GoesTo f (symbol_at old view) (applies table old view)
    goes = goes_to f _ _ (entry_in_block is_table by) on

    abbrev can : CanStep table bounds old view f
    can = record {
      machine = machine;
      stands = known.stands;
      sound = known.sound;
      limit = known.cells;
      few = omega (arith, known.steps_is, known.few);
      state = known.state;
      state_is = known.state_is;
      goes = goes;
    }

    to : MovesTo known.place next_registers.head goes.dir
    to = goes_in by goes known.place known.within known.head some

    there_is : there can ≡ from +ℤ pos to.to
    there_is = ap (beside goes.dir) known.position ∙ beside_from goes.dir from known.place to.to to.position

    inside : IsInside view (there can)
    inside = (
      omega (arith, ints, there_is, known.block.low),
      omega (arith, ints, there_is, known.block.high, to.within),
    )

    fits : cells_between (int_min view.low (there can)) (int_max view.high (there can)) ≤ view.limit
    fits = inside_fits view (there can) known.sound inside

    cell_next : (k : ℕ) → k < 64
        → cell (view_next can fits).content (from +ℤ pos k) ≡ bit_at (flipped_bits run.registers.bits run.registers.head (bit_at f 6)) k
    cell_next k h = elim (cases_eq k known.place) [
      | inl same ↦ rw same (
          ap (cell (view_next can fits).content) (sym known.position)
          ∙ cell-with_cell-same view.content (position_of old) goes.write
          ∙ goes.writes ∙ ap (λ n. (n + bit_at f 6) % 2) symbol_is
          ∙ sym (flipped_same run.registers.bits run.registers.head known.place (bit_at f 6) known.head (bit_at-lt f 6)))
      | inr other ↦
          cell-with_cell-other view.content (position_of old) goes.write (from +ℤ pos k)
          (λ e. other (omega (arith, ints, e, known.position)))
          ∙ known.bits k h
          ∙ sym (flipped_other run.registers.bits run.registers.head known.place (bit_at f 6) k known.head other)
    ]

    -- the registers after the step
    pub next_in_block : IsBlockRun table bounds from tape (record { registers = next_registers; steps = run.steps + 1 })
    unfolding next
    next_in_block =
        let low = min-same view.low (there can) inside.0 in
        let high = max-same view.high (there can) inside.1 in
        record {
          runner = next can fits;
          view = view_next can fits;
          stands = (moved_on can fits (λ e. apart (known.steps_is ∙ e))).stands;
          sound = sound_after can fits;
          block = record { low = rw low known.block.low; high = rw high known.block.high; side = known.block.side };
          low = low ∙ known.low;
          high = high ∙ known.high;
          limit = known.limit;
          cells = known.cells;
          steps_is = ap (λ n. n + 1) known.steps_is;
          few = omega (arith, known.few, apart);
          place = to.to;
          within = to.within;
          head = to.is;
          position = there_is;
          bits = λ k h. cell_next k h ∙ ap (λ b. bit_at b k) (sym by.bits);
          rest = λ p out.
              cell-with_cell-other view.content (position_of old) goes.write p
              (λ e. omega (arith, ints, e, known.position, known.within, out))
              ∙ known.rest p out;
          state = goes.state;
          state_is = refl;
          entry = goes.shift;
        }

  -- the window is in order
  pub order_kept : {low high : ℤ} → low ≡ low_of known.runner → high ≡ high_of known.runner → low ≤ℤ high
  order_kept is_low is_high =
      omega (arith, ints, is_low, is_high, known.stands.window_low, known.stands.window_high, known.sound.from_zero, known.sound.to_zero)

  -- a tape to which the registers were written
  pub tape_is : {new : TapeView} → PutsBits tape new from run.registers.bits 64 → new ≡ known.view
  tape_is {new} puts =
      same_views _ _
      (same_content _ _ (λ p.
      by_lt_z p from (λ under. puts.there p (inl under) ∙ sym (known.rest p (inl under)))
      (λ ge. by_lt_z p (from +ℤ pos 64)
      (λ lt.
      let k = unsigned_abs (p -ℤ from) in
      let is : p ≡ from +ℤ pos k = omega (arith, ints, abs_is (p -ℤ from) (omega (arith, ints, ge))) in
      let within : k < 64 = omega (arith, ints, is, lt) in
      rw is (puts.here k within ∙ sym (known.bits k within)))
      (λ past. puts.there p (inr past) ∙ sym (known.rest p (inr past))))))
      (puts.low ∙ sym known.low) (puts.high ∙ sym known.high) (puts.limit ∙ sym known.limit)

-- a step before a barrier, of a run inside a block
pub steps_in_block : {table : Table} {bounds : Bounds} {from : ℤ} {tape : TapeView} {packed : PackedTable}
    {barrier : Barrier} {old new : BlockRun} → IsMachine table → IsTableOf table packed
    → IsBlockRun table bounds from tape old → StepsBefore packed barrier old new → barrier.to ≤ bounds.steps
    → IsBlockRun table bounds from tape new
steps_in_block {table} {bounds} {from} {tape} {barrier = barrier} {new = new} machine is_table known step few =
    subst (λ n. IsBlockRun table bounds from tape (record { registers = new.registers; steps = n })) (sym step.steps)
    (next_in_block known machine is_table step.by step.on
    (λ none. step.inside (ap (bit_and barrier.window) none ∙ and_zero_r barrier.window))
    (λ e. omega (arith, e, step.before, few)))

-- a run in registers, as one in the block of its 64 cells, and after steps there
abbrev pub block_of : RegisterRun → BlockRun
block_of run = record { registers = run.registers; steps = run.steps }

abbrev pub with_block : RegisterRun → BlockRun → RegisterRun
with_block run block = record run { registers = block.registers; steps = block.steps }

-- a step before a barrier, of a run in registers whose window is the barrier's
pub steps_in_window : {table : Table} {bounds : Bounds} {packed : PackedTable} {barrier : Barrier} {run : RegisterRun}
    {new : BlockRun} → IsMachine table → IsTableOf table packed → (known : IsRegisterRun table bounds run)
    → StepsBefore packed barrier (block_of run) new → barrier.window ≡ run.window → barrier.to ≤ bounds.steps
    → ContinuesTo known (with_block run new)
steps_in_window {run = run} {new = new} machine is_table known step window few =
    subst (λ n. ContinuesTo known (with_block run (record { registers = new.registers; steps = n }))) (sym step.steps)
    (goes_on_inside machine is_table known step.by step.on
    (λ none. step.inside (ap (λ w. bit_and w new.registers.head) window ∙ none))
    (λ e. omega (arith, e, step.before, few)))

-- the high end of a window told by its low end and its cells
pub high_kept : (low high from : ℤ) (n : ℕ) → from ≡ low → n ≡ cells_between low high → low ≤ℤ high
    → (from +ℤ pos n) -ℤ pos 1 ≡ high
high_kept low high from n is cells order =
    let e = cells_between-is low high order in
    omega (arith, ints, e, is, cells)

-- a position of a window is a number of the machine
pub position_fits : (z : ℤ) → (pos 0 -ℤ pos (MAX_CELLS + 64)) ≤ℤ z → z ≤ℤ pos (MAX_CELLS + 64) → FitsSigned w64 z
position_fits (pos n) a b = record { sfits = omega (arith, ints) }
position_fits (negsuc n) a b = record { sfits = omega (arith, ints) }

-- a run whose block was just taken from the tape
pub run_taken : (table : Table) (bounds : Bounds) (from : ℤ) (view : TapeView) (runner : Runner) (run : BlockRun)
    (state place : ℕ) → symbols_of table ≡ 2 → Stands table runner view → IsSound view → view.limit ≡ bounds.cells
    → IsBlockOf runner from → steps_of runner ≤ bounds.steps → run.steps ≡ steps_of runner
    → state_of runner ≡ State state → run.registers.entry ≡ 9 * state → state < 7
    → HasBits view.content from run.registers.bits → run.registers.head ≡ 2 ^ place
    → position_of runner ≡ from +ℤ pos place → IsBlockRun table bounds from view run
run_taken table bounds from view runner run state place two stands sound cells block few steps state_is entry small has head position = record {
  runner = runner;
  view = view;
  stands = stands;
  sound = sound;
  block = record {
    low = omega (arith, ints, stands.window_low, block.low);
    high = omega (arith, ints, stands.window_high, block.high);
    side = block.side;
  };
  low = refl;
  high = refl;
  limit = refl;
  cells = cells;
  steps_is = steps;
  few = omega (arith, steps, few);
  place = place;
  within = omega (arith, ints, position, block.within);
  head = head;
  position = position;
  bits = λ k h. omega (arith, has k h, stands.symbols_named (from +ℤ pos k), two);
  rest = λ p out. refl;
  state = state;
  state_is = state_is;
  entry = omega (arith, entry, small);
}

-- a runner that goes on from where one has gone on to
pub goes_on_again : {table : Table} {bounds : Bounds} {first old new : Runner} {view_first view_old view_new : TapeView}
    {meter_first meter_old meter_new : Meter} → GoesOn table bounds first old view_first view_old meter_first meter_old
    → GoesOn table bounds old new view_old view_new meter_old meter_new
    → GoesOn table bounds first new view_first view_new meter_first meter_new
goes_on_again {table} {bounds} {first} {old} {new} before after = record {
  stands = after.stands;
  limit = after.limit ∙ before.limit;
  few = after.few;
  more = omega (arith, before.more, after.more);
  counts = λ begun counts. after.counts begun (before.counts begun counts);
}

-- a step goes on
pub goes_on_next : {table : Table} {bounds : Bounds} {old new : Runner} {view_old view_new : TapeView}
    {meter_old meter_new : Meter} (answer : Moved) → answer ≡ moved.Stepped
    → Stands table new view_new → view_new.limit ≡ view_old.limit → Reaches table bounds new view_new answer
    → Moves table old new view_old view_new meter_old meter_new answer
    → GoesOn table bounds old new view_old view_new meter_old meter_new
goes_on_next {table} {bounds} {old} answer is stands limit reaches moves =
    let step = rw is at moves in
    record {
      stands = stands;
      limit = limit;
      few = (rw is at reaches).0.within_steps;
      more = omega (arith, step.0);
      counts = λ begun counts. rw step.0 (counts_next table (steps_of old) begun counts step.1);
    }
