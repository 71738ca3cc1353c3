-- What follows for a runner from where it stands.
use Rattle.std.proofs.Common.{◌≡◌, ◌≢◌, ℕ, ◌+◌, ◌<◌, ◌≤◌, ℤ, pos, negsuc, neg_ℤ, ◌+ℤ◌, ◌-ℤ◌, ◌<ℤ◌, ◌≤ℤ◌, w64}
use Rattle.std.proofs.Common.{of_z, refl, ap, sym, ◌∙◌, arith}
use Rattle.std.specs.Int.{int_min, int_max}
use Rattle.std.proofs.lemmas.Int.{ints, clamps, by_lt_z}
use Rattle.bb_machine.specs.declared.entry.Dir.{Dir}
use Rattle.bb_machine.specs.declared.entry.Dir.TheVariants.{L, R}
use Rattle.bb_machine.specs.declared.entry.Next.{Next}
use Rattle.bb_machine.specs.declared.entry.Next.TheVariants.{State, Halt}
use Rattle.bb_machine.specs.Machine.{Table, IsMachine}
use Rattle.bb_tape.specs.declared.tape.TheConstants.{MAX_CELLS}
use Rattle.bb_tape.specs.Content.{cell}
use Rattle.bb_tape.specs.TapeView.{TapeView, fresh, visited, width, IsInside, IsBeside, IsSound}
use Rattle.bb_tape.proofs.Facts.{cell-blank, same_ends}
use Rattle.bb_sim.specs.declared.runner.Runner.{Runner}
use Rattle.bb_sim.specs.Configuration.{beside}
use Rattle.bb_sim.specs.CellsBetween.{cells_between}
use Rattle.bb_sim.specs.Span.{counted_position, counted_head}
use Rattle.bb_sim.specs.Runner.{Stands, state_of, position_of, steps_of, low_of, high_of}
use Rattle.bb_sim.proofs.Positions.{least_last, greatest_last, cells_between-is, min-same, max-same}
use Rattle.bb_sim.proofs.Steps.{conf-start, counted_head-start, counted_head-at}

-- a fresh tape has a runner at its start
pub at_start : (table : Table) (view : TapeView) (limit : ℕ) (runner : Runner) → IsMachine table
    → view ≡ fresh limit
    → state_of runner ≡ State 0 → position_of runner ≡ pos 0 → steps_of runner ≡ 0 → low_of runner ≡ pos 0
    → high_of runner ≡ pos 0
    → Stands table runner view
at_start table view limit runner machine is state head steps low high =
    let content = ap (λ (s : TapeView). s.content) is in
    record {
      at = rw (steps, state, head, content) (conf-start table);
      low = rw (steps, low) (sym (counted_head-start table));
      high = rw steps (high ∙ sym (counted_head-start table));
      window_low = ap (λ (s : TapeView). s.low) is ∙ sym low;
      window_high = ap (λ (s : TapeView). s.high) is ∙ sym high;
      state_named = rw state machine.some_state;
      symbols_named = λ p. let none : cell view.content p ≡ 0 = ap (λ (s : TapeView). cell s.content p) is
          ∙ cell-blank p in omega (arith, machine.two_symbols, none);
    }

pub counted_running : (state : Next) (head : ℤ) → state ≢ Halt → counted_position state head ≡ head
counted_running (State q) head running = refl
counted_running Halt head running = absurd (running refl)

-- where a running machine's head stands is in the window
pub head_inside : (table : Table) (runner : Runner) (view : TapeView) → Stands table runner view
    → runner.state ≢ Halt → IsInside view runner.position
head_inside table runner view stands running =
    let here : counted_head table runner.steps ≡ runner.position =
    counted_head-at table runner.steps _ stands.at ∙ counted_running runner.state runner.position running in
    omega (
      arith,
      ints,
      least_last (counted_head table) runner.steps,
      greatest_last (counted_head table) runner.steps,
    )

-- the position beside one of the window is in it or next to it
pub beside_inside : (view : TapeView) (p : ℤ) (dir : Dir) → IsInside view p → IsBeside view (beside dir p)
beside_inside view p L inside = omega (arith, ints)
beside_inside view p R inside = omega (arith, ints)

-- a window's position is a small number
pub small_position : (view : TapeView) (p : ℤ) → IsSound view → IsInside view p
    → (neg_ℤ (pos MAX_CELLS) ≤ℤ p) × (p ≤ℤ pos MAX_CELLS)
small_position view p sound inside = omega (arith, ints)

-- a position of the window changes no end
pub inside_stays : (view : TapeView) (p : ℤ) → IsInside view p → visited view p ≡ view
inside_stays view p inside =
    same_ends view (min-same view.low p inside.0) (max-same view.high p inside.1)

-- what a running machine's head and the position beside it are for a tape
pub record Near (view : TapeView) (p : ℤ) (dir : Dir) : Type 0 where
  pub here : IsInside view p
  pub near : IsBeside view (beside dir p)
  pub small : (neg_ℤ (pos MAX_CELLS) ≤ℤ p) × (p ≤ℤ pos MAX_CELLS)

pub near_head : (table : Table) (runner : Runner) (view : TapeView) (dir : Dir) → Stands table runner view
    → runner.state ≢ Halt → IsSound view → Near view runner.position dir
near_head table runner view dir stands running sound =
    let here = head_inside table runner view stands running in
    record {
      here = here;
      near = beside_inside view runner.position dir here;
      small = small_position view runner.position sound here;
    }

-- a position of the window needs no more cells
pub inside_fits : (view : TapeView) (p : ℤ) → IsSound view → IsInside view p
    → cells_between (int_min view.low p) (int_max view.high p) ≤ view.limit
inside_fits view p sound inside =
    let n = cells_between-is view.low view.high (omega (arith, ints)) in
    rw (min-same view.low p inside.0, max-same view.high p inside.1) (omega (arith, ints))

-- a window told by its low end and its number of cells, and a position in it or next to it
module _ (runner : Runner) (view : TapeView) (p : ℤ) (sound : IsSound view) (low : view.low ≡ low_of runner)
    (high : view.high ≡ high_of runner) where
  -- with fewer cells than the limit there is room for one more
  pub room_left : runner.cells ≢ view.limit → width view <ℤ pos view.limit
  room_left apart = omega (arith, ints, apart)

  -- and so for a position next to it
  pub fits_next : runner.cells ≢ view.limit → IsBeside view p → cells_between (int_min view.low p)
      (int_max view.high p) ≤ view.limit
  fits_next apart near =
      let e = cells_between-is (int_min view.low p) (int_max view.high p) (omega (arith, ints, clamps)) in
      omega (arith, ints, clamps, e, room_left apart)

  -- a position next to it that isn't below it is above it
  pub next_above : ((low_of runner ≤ℤ p) × (p ≤ℤ high_of runner) → ⊥) → IsBeside view p → low_of runner ≤ℤ p
      → p ≡ view.high +ℤ pos 1
  next_above outside near at =
      by_lt_z (high_of runner) p (λ over. omega (arith, ints)) (λ to. absurd (outside (at, to)))

-- the ends of a window that has grown by one cell
pub high_stays : (low p : ℤ) (cells : ℕ) → 0 < cells → p <ℤ low → low ≤ℤ (p +ℤ pos 1)
    → (p +ℤ pos (cells + 1)) -ℤ pos 1 ≡ int_max ((low +ℤ pos cells) -ℤ pos 1) p
high_stays low p cells some below near = omega (arith, ints, clamps)

pub high_grows : (low p : ℤ) (cells : ℕ) → p ≡ ((low +ℤ pos cells) -ℤ pos 1) +ℤ pos 1
    → (low +ℤ pos (cells + 1)) -ℤ pos 1 ≡ int_max ((low +ℤ pos cells) -ℤ pos 1) p
high_grows low p cells next = omega (arith, ints, clamps)

-- one test without a sign tells whether a difference that is at least -1 is in a window
unsigned_below : (d : ℤ) (cells : ℕ) → cells ≤ MAX_CELLS → neg_ℤ (pos 1) ≤ℤ d
    → (of_z w64 d < cells → (pos 0 ≤ℤ d) × (d <ℤ pos cells))
    × ((pos 0 ≤ℤ d) × (d <ℤ pos cells) → of_z w64 d < cells)
unsigned_below (pos n) cells few least =
    (λ h. (omega (arith, ints), omega (arith, ints, h)), λ h. omega (arith, ints, h.1))
unsigned_below (negsuc n) cells few least =
    (λ h. absurd (omega (arith, ints, few, least, h)), λ h. absurd (omega (arith, ints, h.0)))

pub inside_test : (low p : ℤ) (cells : ℕ) → cells ≤ MAX_CELLS → low ≤ℤ (p +ℤ pos 1)
    → (of_z w64 (p -ℤ low) < cells → (low ≤ℤ p) × (p ≤ℤ ((low +ℤ pos cells) -ℤ pos 1)))
    × ((low ≤ℤ p) × (p ≤ℤ ((low +ℤ pos cells) -ℤ pos 1)) → of_z w64 (p -ℤ low) < cells)
inside_test low p cells few near =
    let test = unsigned_below (p -ℤ low) cells few (omega (arith, ints, near)) in (
      λ h. let inside = test.0 h in (omega (arith, ints, inside.0), omega (arith, ints, inside.1)),
      λ h. test.1 (omega (arith, ints, h.0), omega (arith, ints, h.1)),
    )
