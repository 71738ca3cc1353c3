-- A step of a runner by a packed entry, and of a run in registers, whose runner and view are in the proof alone.
use Rattle.std.proofs.Common.{◌≡◌, ◌≢◌, ℕ, zero, suc, ◌+◌, ◌^◌, ◌<◌, ◌≤◌, ◌⊎◌, inl, inr, length}
use Rattle.std.proofs.Common.{ℤ, pos, ◌+ℤ◌, ◌-ℤ◌, ◌≤ℤ◌, refl, ap, sym, subst, ◌∙◌, arith}
use Rattle.std.proofs.Common.{bit_and, bit_or, Ok, true}
use Rattle.std.specs.Prelude.{◌↔◌}
use Rattle.std.specs.Int.{bit_at, int_max, int_min}
use Rattle.std.proofs.lemmas.Int.{ints, clamps, by_lt_z}
use Rattle.std.specs.Int.Bits.{and_zero_r}
use Rattle.std.proofs.lemmas.Bool.{cases_eq}
use Rattle.std.proofs.lemmas.Nat.{or_lt, xor_lt}
use Rattle.std.proofs.Math.Nat.{pow-le-pow_right}
use Rattle.std.proofs.lemmas.Nat.Bits.{bit_at-lt, bit_at_or, bit_at-pow_same, bit_at-pow_other}
use Rattle.bb_machine.specs.declared.entry.Dir.{Dir}
use Rattle.bb_machine.specs.declared.entry.Dir.TheVariants.{L, R}
use Rattle.bb_machine.specs.declared.entry.Next.{Next}
use Rattle.bb_machine.specs.declared.entry.Next.TheVariants.{State}
use Rattle.bb_machine.specs.declared.entry.Entry.TheVariants.{Go}
use Rattle.bb_machine.specs.Entry.{IsEntryOf}
use Rattle.bb_machine.specs.Limits.{Bounds}
use Rattle.bb_machine.specs.Machine.{IsMachine, Table, symbols_of}
use Rattle.bb_machine.proofs.Facts.{entry_named}
use Rattle.bb_tape.specs.declared.tape.TheConstants.{MAX_SYMBOL}
use Rattle.bb_tape.specs.TapeView.{TapeView, visited, written, IsBeside, IsInside, IsSound}
use Rattle.bb_tape.proofs.Facts.{by_position, cell-with_cell-other, cell-with_cell-same}
use Rattle.bb_sim.specs.declared.runner.Runner.{Runner}
use Rattle.bb_sim.specs.declared.runner.Moved.TheVariants as moved
use Rattle.bb_sim.specs.CellsBetween.{cells_between}
use Rattle.bb_sim.specs.Configuration.{beside, entry_at}
use Rattle.bb_sim.specs.Meter.{stepped, zero_meter}
use Rattle.bb_sim.specs.Run.{HaltsAt}
use Rattle.bb_sim.specs.Runner.{Stands, high_of, low_of, position_of, state_of, steps_of}
use Rattle.bb_sim.specs.Span.{counted_head, span}
use Rattle.bb_sim.proofs.Facts.{Advances}
use Rattle.bb_sim.proofs.Facts.{counted_head-at}
use Rattle.bb_sim.proofs.Facts.{cells_between-is, min-same, max-same}
use Rattle.bb_sim.proofs.Facts.{Near, inside_fits, near_head}
use Rattle.bb_sim.proofs.Facts.{Stepped, made, moves_on, next-span, running}
use Rattle.bb_registers.specs.declared.run.RegisterRun.{RegisterRun}
use Rattle.bb_registers.specs.BitCells.{IsInWord, bits_content}
use Rattle.bb_registers.specs.declared.registers.Registers.{Registers}
use Rattle.bb_machine.specs.declared.packed.PackedTable.{PackedTable}
use Rattle.bb_machine.specs.Packed.{IsTableOf, right_bit}
use Rattle.bb_registers.specs.Registers.{ContinuesTo, IsRegisterRun, MatchesRunner, MatchesWindow, StaysInWord, StepsTo}
use Rattle.bb_registers.specs.Registers.{flipped_bits}
use Rattle.bb_registers.proofs.Bits.{at_bit}
use Rattle.bb_registers.proofs.OneBit.{bit_clear, bit_set}
use Rattle.bb_registers.proofs.Entries.{GoesTo, MovesTo, applies, content_written, entry_known, goes_beyond, goes_in, goes_to}
use Rattle.bb_registers.proofs.Entries.{symbol_at}

-- the window that has taken in one position more, and its written cell, keep a view sound
sound_next : (view : TapeView) (p q : ℤ) (write : ℕ) → IsSound view → IsInside view p → write ≤ MAX_SYMBOL
    → cells_between (int_min view.low q) (int_max view.high q) ≤ view.limit
    → IsSound (written (visited view q) p write)
sound_next view p q write sound inside small fits =
    let n = cells_between-is (int_min view.low q) (int_max view.high q) (omega (arith, ints, clamps, sound.from_zero, sound.to_zero)) in
    record {
      from_zero = omega (arith, ints, clamps, sound.from_zero);
      to_zero = omega (arith, ints, clamps, sound.to_zero);
      within = omega (arith, ints, n, fits);
      limited = sound.limited;
      nothing_outside = λ x some. by_position x p _
          (λ here. rw here (omega (arith, ints, clamps, inside.0), omega (arith, ints, clamps, inside.1)))
          (λ there.
          let old = sound.nothing_outside x (λ e. some (cell-with_cell-other view.content p write x there ∙ e)) in
          (omega (arith, ints, clamps, old.0), omega (arith, ints, clamps, old.1)));
      symbols = λ x. by_position x p _
          (λ here. rw here (omega (arith, cell-with_cell-same view.content p write, small)))
          (λ there. omega (arith, cell-with_cell-other view.content p write x there, sound.symbols x));
    }

pub pow_fits : (k : ℕ) → k < 64 → 2 ^ k < 2 ^ 64
pow_fits k h =
    let least : 2 ^ k ≤ 2 ^ 63 = pow-le-pow_right {n = 2} (omega arith) {i = k} {j = 63} (omega (arith, h)) in
    omega (arith, least)

pub flipped_fits : (bits head flip : ℕ) → bits < 2 ^ 64 → head < 2 ^ 64 → flipped_bits bits head flip < 2 ^ 64
flipped_fits bits head zero p q = p
flipped_fits bits head (suc flip) p q = xor_lt 64 bits head p q

-- a position beside a window and outside it is next to one of its ends
outside_wide : (view : TapeView) (p : ℤ) → (IsInside view p → ⊥) → IsBeside view p
    → (p +ℤ pos 1 ≡ view.low) ⊎ (p ≡ view.high +ℤ pos 1)
outside_wide view p out near =
    by_lt_z p view.low (λ below. inl (omega (arith, ints, below, near.0)))
    (λ from. by_lt_z view.high p (λ above. inr (omega (arith, ints, above, near.1))) (λ to. absurd (out (from, to))))

-- one more position of the window, one more bit
more_bits : (view : TapeView) (p : ℤ) (to bit : ℕ) → bit ≡ 2 ^ to → p ≡ at_bit to → (p +ℤ pos 1 ≡ view.low) ⊎ (p ≡ view.high +ℤ pos 1)
    → (window : ℕ) → view.low ≤ℤ view.high
    → ((i : ℕ) → i < 64 → (bit_at window i ≡ 1) ↔ ((view.low ≤ℤ at_bit i) × (at_bit i ≤ℤ view.high)))
    → (i : ℕ) → i < 64 → (bit_at (bit_or window bit) i ≡ 1)
    ↔ ((int_min view.low p ≤ℤ at_bit i) × (at_bit i ≤ℤ int_max view.high p))
more_bits view p to bit is_bit there wide window order old i h = elim (cases_eq i to) [
  | inl same ↦
      let set : bit_at (bit_or window bit) i ≡ 1 =
      rw is_bit (bit_at_or window (2 ^ to) i ∙ rw same (omega (arith, bit_at-pow_same to, bit_at-lt window to))) in
      (λ b. (omega (arith, ints, clamps, there, same), omega (arith, ints, clamps, there, same)), λ b. set)
  | inr apart ↦
      let is : bit_at (bit_or window bit) i ≡ bit_at window i =
      rw is_bit (bit_at_or window (2 ^ to) i ∙ omega (arith, bit_at-pow_other to i apart)) in (
        λ b. let o = (old i h).0 (sym is ∙ b) in
            (omega (arith, ints, clamps, o.0), omega (arith, ints, clamps, o.1)),
        λ b. is ∙ (old i h).1 (narrower apart wide b),
      )
] where
  narrower : i ≢ to → (p +ℤ pos 1 ≡ view.low) ⊎ (p ≡ view.high +ℤ pos 1)
      → (int_min view.low p ≤ℤ at_bit i) × (at_bit i ≤ℤ int_max view.high p)
      → (view.low ≤ℤ at_bit i) × (at_bit i ≤ℤ view.high)
  narrower apart (inl e) b = (
    omega (arith, ints, clamps, b.0, there, e, apart),
    omega (arith, ints, clamps, b.1, there, e, order),
  )
  narrower apart (inr e) b = (
    omega (arith, ints, clamps, b.0, there, e, order),
    omega (arith, ints, clamps, b.1, there, e, apart),
  )

-- the entry that applies is one of the machine
named_at : (table : Table) → IsMachine table → (state : Next) (q symbol : ℕ) → state ≡ State q → q < length table
    → symbol < symbols_of table → IsEntryOf (length table) (symbols_of table) (entry_at table state symbol)
named_at table machine state q symbol is below small = rw is (entry_named _ _ table q symbol machine below small)

goes_right : (dir : Dir) (p : ℤ) → right_bit dir ≡ 1 → beside dir p ≡ p +ℤ pos 1
goes_right L p one = absurd (omega (arith, one))
goes_right R p one = refl

goes_left : (dir : Dir) (p : ℤ) → (right_bit dir ≡ 1 → ⊥) → beside dir p ≡ p -ℤ pos 1
goes_left L p other = refl
goes_left R p other = absurd (other refl)

-- a runner on a tape within limits, at an entry that goes to a state
pub record CanStep (table : Table) (bounds : Bounds) (runner : Runner) (view : TapeView) (f : ℕ) : Type 0 where
  pub machine : IsMachine table
  pub stands : Stands table runner view
  pub sound : IsSound view
  pub limit : view.limit ≡ bounds.cells
  pub few : steps_of runner ≤ bounds.steps
  pub state : ℕ
  pub state_is : state_of runner ≡ State state
  pub goes : GoesTo f (symbol_at runner view) (applies table runner view)

module _ {table : Table} {bounds : Bounds} {runner : Runner} {view : TapeView} {f : ℕ}
    (can : CanStep table bounds runner view f) where
  -- where the head goes
  abbrev pub there : ℤ
  there = beside can.goes.dir (position_of runner)

  here : Go can.goes.write can.goes.dir (State can.goes.state) ≡ applies table runner view
  here = can.goes.is

  pub near : Near view (position_of runner) can.goes.dir
  near = near_head table runner view can.goes.dir can.stands (running can.stands here) can.sound

  named : IsEntryOf (length table) (symbols_of table) (Go can.goes.write can.goes.dir (State can.goes.state))
  named =
      subst (IsEntryOf (length table) (symbols_of table)) (sym here)
      (named_at table can.machine (state_of runner) can.state (symbol_at runner view) can.state_is
      (rw can.state_is at can.stands.state_named) (can.stands.symbols_named (position_of runner)))

  pub goes_on : HaltsAt table (steps_of runner) → ⊥
  goes_on = moves_on can.stands here

  -- the step needs no more cells than there are
  module _ (fits : cells_between (int_min view.low there) (int_max view.high there) ≤ view.limit) where
    order : int_min view.low there ≤ℤ int_max view.high there
    order = omega (arith, ints, clamps, can.sound.from_zero, can.sound.to_zero)

    unfoldable pub next : Runner
    next = record {
      state = State can.goes.state;
      position = there;
      steps = steps_of runner + 1;
      low = int_min view.low there;
      cells = cells_between (int_min view.low there) (int_max view.high there);
      some_cell = omega arith;
      few_cells = omega (arith, fits, can.sound.limited);
      low_to_zero = omega (arith, ints, clamps, can.sound.from_zero);
      low_small = omega (arith, ints, clamps, near.here, near.small, can.sound.within, can.sound.limited, can.sound.to_zero);
    }

    abbrev pub view_next : TapeView
    view_next = written (visited view there) (position_of runner) can.goes.write

    is_stepped : Stepped can.stands here next view_next
    unfolding next
    is_stepped =
        let n = cells_between-is (int_min view.low there) (int_max view.high there) order in
        record {
          state = refl;
          head = refl;
          steps = refl;
          low = ap (λ p. int_min p there) can.stands.window_low;
          high = omega (arith, ints, clamps, n, can.stands.window_high);
          tape = refl;
        }

    small : can.goes.write < 2
    small = omega (arith, can.goes.writes)

    pub sound_after : IsSound view_next
    sound_after =
        sound_next view (position_of runner) there can.goes.write can.sound near.here (omega (arith, small)) fits

    pub moved_on : steps_of runner ≢ bounds.steps
        → Advances true table bounds runner next view view_next zero_meter
        (stepped zero_meter (cells_between (low_of next) (high_of next))) (Ok moved.Stepped)
    moved_on apart =
        made can.stands here bounds next view_next zero_meter
        (stepped zero_meter (cells_between (low_of next) (high_of next))) can.sound named can.limit can.few apart fits
        is_stepped refl

-- a run after a step
abbrev pub after : RegisterRun → Registers → ℕ → ℕ → RegisterRun
after run next window room = record { registers = next; window = window; room = room; steps = run.steps + 1 }

-- a step of a run whose entry goes to a state
module _ {table : Table} {bounds : Bounds} {run : RegisterRun} (machine : IsMachine table)
    {packed : PackedTable} (is_table : IsTableOf table packed) (known : IsRegisterRun table bounds run)
    {next_registers : Registers} (by : StepsTo packed run.registers next_registers)
    (on : bit_at next_registers.entry 8 ≡ 1 → ⊥) where
  abbrev old : Runner
  old = known.runner

  abbrev view : TapeView
  view = known.view

  abbrev f : ℕ
  f = next_registers.entry

  abbrev head : ℕ
  head = next_registers.head

  pub goes : GoesTo f (symbol_at old view) (applies table old view)
  goes = goes_to f _ _ (entry_known known is_table by) on

  abbrev pub can : CanStep table bounds old view f
  can = record {
    machine = machine;
    stands = known.stands;
    sound = known.sound;
    limit = known.limit;
    few = omega (arith, known.steps_is, known.few);
    state = known.at.state;
    state_is = known.at.state_is;
    goes = goes;
  }

  abbrev there_now : ℤ
  there_now = there can

  abbrev NeedsNoMore : Type 0
  NeedsNoMore = cells_between (int_min view.low there_now) (int_max view.high there_now) ≤ view.limit

  to_place : head ≢ 0 → MovesTo known.at.place head goes.dir
  to_place = goes_in by goes known.at.place known.at.within known.at.head

  there_is : (some : head ≢ 0) → there_now ≡ at_bit (to_place some).to
  there_is some = ap (beside goes.dir) known.at.position ∙ sym (to_place some).position

  at_next : (fits : NeedsNoMore) → head ≢ 0 → MatchesRunner next_registers (next can fits) (view_next can fits)
  unfolding next
  at_next fits some =
      let at = known.at in
      let to = to_place some in
      record {
        place = to.to;
        within = to.within;
        head = to.is;
        position = there_is some;
        content = content_written known (bit_at f 6) goes.write (bit_at-lt f 6) goes.writes ∙ ap bits_content (sym by.bits);
        state = goes.state;
        state_is = refl;
        entry = goes.shift;
        fits = rw by.bits (flipped_fits run.registers.bits run.registers.head (bit_at f 6) at.fits
            (rw at.head (pow_fits at.place at.within)));
      }

  goes_on_to : (fits : NeedsNoMore) → head ≢ 0 → run.steps ≢ bounds.steps → (window room : ℕ)
      → MatchesWindow window room (view_next can fits) → ContinuesTo known (after run next_registers window room)
  unfolding next
  goes_on_to fits some apart window room window_is =
      let go = moved_on can fits (λ e. apart (known.steps_is ∙ e)) in
      record {
        next = record {
          runner = next can fits;
          view = view_next can fits;
          stands = go.stands;
          sound = sound_after can fits;
          limit = known.limit;
          steps_is = ap (λ n. n + 1) known.steps_is;
          few = omega (arith, known.few, apart);
          at = at_next fits some;
          window_is = window_is;
        };
        steps = refl;
        inside = go.reaches.0;
        low = refl;
        high = refl;
        right = λ one. goes_right goes.dir (position_of old) (sym goes.right ∙ one);
        left = λ other. goes_left goes.dir (position_of old) (λ one. other (goes.right ∙ one));
      }

  -- to a cell of the window
  module _ (visited_there : bit_and run.window head ≢ 0) where
    head_some : head ≢ 0
    head_some none = visited_there (ap (bit_and run.window) none ∙ and_zero_r run.window)

    set : bit_at run.window (to_place head_some).to ≡ 1
    set = bit_set run.window (to_place head_some).to
        (λ e. visited_there (ap (bit_and run.window) (to_place head_some).is ∙ e))

    inside : IsInside view there_now
    inside = rw (there_is head_some) ((known.window_is.bits (to_place head_some).to (to_place head_some).within).0 set)

    pub goes_on_inside : run.steps ≢ bounds.steps → ContinuesTo known (after run next_registers run.window run.room)
    goes_on_inside apart =
        let low : int_min view.low there_now ≡ view.low = min-same _ _ inside.0 in
        let high : int_max view.high there_now ≡ view.high = max-same _ _ inside.1 in
        goes_on_to (inside_fits view there_now known.sound inside) head_some apart run.window run.room (record {
          low_in_word = rw low known.window_is.low_in_word;
          high_in_word = rw high known.window_is.high_in_word;
          bits = λ i h. rw (low, high) (known.window_is.bits i h);
          fits = known.window_is.fits;
          room_is = rw (low, high) known.window_is.room_is;
        })

  -- to a cell that isn't in it
  module _ (unseen : bit_and run.window head ≡ 0) where
    outside : IsInside view there_now → ⊥
    outside taken = elim (cases_eq head 0) [
      | inl none ↦
          goes_beyond by goes known.at.place known.at.within known.at.head none
          (rw (← known.at.position) (
            omega (arith, ints, known.window_is.low_in_word, taken.0),
            omega (arith, ints, known.window_is.high_in_word, taken.1),
          ))
      | inr some ↦
          let to = to_place some in
          let clear : bit_at run.window to.to ≡ 0 = bit_clear run.window to.to (ap (bit_and run.window) (sym to.is) ∙ unseen) in
          let set = (known.window_is.bits to.to to.within).1 (rw (there_is some) at taken) in
          omega (arith, clear, set)
    ]

    wide : (there_now +ℤ pos 1 ≡ view.low) ⊎ (there_now ≡ view.high +ℤ pos 1)
    wide = outside_wide view there_now outside (near can).near

    cells_are : pos (cells_between (int_min view.low there_now) (int_max view.high there_now))
        ≡ (int_max view.high there_now -ℤ int_min view.low there_now) +ℤ pos 1
    cells_are = cells_between-is (int_min view.low there_now) (int_max view.high there_now)
        (omega (arith, ints, clamps, known.sound.from_zero, known.sound.to_zero))

    -- there is no room for it
    pub too_wide : run.room ≡ 0 → bounds.cells < span table (steps_of old + 1)
    too_wide full =
        let spans = next-span known.stands goes.is in
        omega (arith, ints, clamps, cells_are, spans, known.limit, known.window_is.room_is, full, wide)

    fits_new : run.room ≢ 0 → NeedsNoMore
    fits_new some = omega (arith, ints, clamps, cells_are, known.window_is.room_is, some, wide)

    -- where it is none of the 64, the next step leaves them
    pub leaves : head ≡ 0 → run.room ≢ 0 → run.steps ≢ bounds.steps → StaysInWord table (steps_of old + 1) → ⊥
    unfolding next
    leaves none some apart stays =
        let go = moved_on can (fits_new some) (λ e. apart (known.steps_is ∙ e)) in
        let head_is : counted_head table (steps_of old + 1) ≡ there_now =
        counted_head-at table (steps_of old + 1) _ go.stands.at in
        let near : IsInWord there_now = subst IsInWord head_is (stays (steps_of old + 1) (omega arith)) in
        goes_beyond by goes known.at.place known.at.within known.at.head none
        (subst IsInWord (ap (beside goes.dir) known.at.position) near)

    pub goes_on_outside : run.room ≢ 0 → head ≢ 0 → run.steps ≢ bounds.steps → (room : ℕ) → run.room ≡ room + 1
        → ContinuesTo known (after run next_registers (bit_or run.window head) room)
    goes_on_outside free some apart room one =
        let to = to_place some in
        let is = there_is some in
        goes_on_to (fits_new free) some apart (bit_or run.window head) room (record {
          low_in_word = (
            omega (arith, ints, clamps, known.window_is.low_in_word, is),
            omega (arith, ints, clamps, known.window_is.low_in_word, is),
          );
          high_in_word = (
            omega (arith, ints, clamps, known.window_is.high_in_word, is, to.within),
            omega (arith, ints, clamps, known.window_is.high_in_word, is, to.within),
          );
          bits = λ i h. more_bits view there_now to.to head to.is is wide run.window
              (omega (arith, ints, known.sound.from_zero, known.sound.to_zero)) known.window_is.bits i h;
          fits = or_lt 64 run.window head known.window_is.fits (rw to.is (pow_fits to.to to.within));
          room_is = omega (arith, ints, clamps, known.window_is.room_is, one, wide);
        })
