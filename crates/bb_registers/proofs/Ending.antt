-- How a run in registers ends.
use Rattle.std.proofs.Common.{◌≡◌, ◌≢◌, ℕ, ◌+◌, ◌<◌, ◌^◌, refl, ap, sym, ◌∙◌, arith, Ok, true, inl, inr}
use Rattle.std.specs.Int.{bit_at}
use Rattle.std.specs.Int.Count.{ones}
use Rattle.std.proofs.lemmas.Int.{ints}
use Rattle.std.proofs.lemmas.Nat.Bits.{bit_at-lt}
use Rattle.bb_machine.specs.declared.entry.Next.TheVariants.{Halt}
use Rattle.bb_machine.specs.Limits.{Bounds}
use Rattle.bb_machine.specs.Machine.{Table, symbols_of}
use Rattle.bb_tape.specs.Content.{score}
use Rattle.bb_tape.specs.TapeView.{TapeView, written}
use Rattle.bb_sim.specs.declared.runner.Runner.{Runner}
use Rattle.bb_sim.specs.declared.runner.Moved.TheVariants as moved
use Rattle.bb_sim.specs.CellsBetween.{cells_between}
use Rattle.bb_sim.specs.Configuration.{beside}
use Rattle.bb_sim.specs.Meter.{stepped, zero_meter}
use Rattle.bb_sim.specs.Outcome.{IsOutcome}
use Rattle.bb_sim.specs.declared.simulation.Outcome.{Outcome}
use Rattle.bb_sim.specs.declared.simulation.Outcome.TheVariants.{NoSteps, NoCells}
use Rattle.bb_sim.specs.declared.simulation.Outcome.TheVariants as outcomes
use Rattle.bb_sim.specs.Run.{HaltsAt}
use Rattle.bb_sim.specs.Runner.{Stands, high_of, low_of, position_of, steps_of}
use Rattle.bb_sim.specs.Span.{Inside, IsLastInside, counted_head, greatest, span}
use Rattle.bb_sim.proofs.Facts.{Advances}
use Rattle.bb_sim.proofs.Facts.{cells_between-is, halts_in_Z}
use Rattle.bb_sim.proofs.Facts.{cells_last, halted_end, halts_last, inside_here, no_halt_inside, steps_last, wide_at_end}
use Rattle.bb_sim.proofs.Facts.{Stepped, fits_Z, halts_undefined, into_Z, made, moves_on}
use Rattle.bb_registers.specs.declared.run.RegisterRun.{RegisterRun}
use Rattle.bb_machine.specs.Packed.{IsPackedEntry}
use Rattle.bb_registers.specs.Registers.{EndsWith, IsRegisterRun, flipped_bits, last_step}
use Rattle.bb_registers.proofs.Bits.{score-bits}
use Rattle.bb_registers.proofs.Entries.{GoesToZ, applies, content_written, is_undefined, symbol_at}

-- the span up to where a runner stands is that of its window
pub span-window : {table : Table} {runner : Runner} {view : TapeView} → Stands table runner view
    → span table (steps_of runner) ≡ cells_between view.low view.high
span-window {table} {runner} {view} stands =
    let n = steps_of runner in
    ap (λ p. cells_between p (greatest (counted_head table) n)) (sym stands.low ∙ sym stands.window_low)
    ∙ ap (λ p. cells_between view.low p) (sym stands.high ∙ sym stands.window_high)

-- a window with as many cells, and so much room
pub room_left : {table : Table} {bounds : Bounds} {run : RegisterRun} (known : IsRegisterRun table bounds run)
    {runner : Runner} {view : TapeView} → Stands table runner view → view.low ≡ known.view.low
    → view.high ≡ known.view.high → span table (steps_of runner) + run.room ≡ bounds.cells
room_left known {runner} {view} stands low high =
    let n = cells_between-is view.low view.high (omega (arith, ints, low, high, known.sound.from_zero, known.sound.to_zero)) in
    omega (arith, ints, span-window stands, n, low, high, known.window_is.room_is, known.limit)

module _ {table : Table} {bounds : Bounds} {run : RegisterRun} (known : IsRegisterRun table bounds run) where
  pub inside : Inside table bounds (steps_of known.runner)
  inside = inside_here table known.runner known.view bounds known.stands known.sound known.limit
      (omega (arith, known.steps_is, known.few))

  ends_at : (outcome : Outcome) → IsLastInside table bounds (steps_of known.runner) → IsOutcome table bounds outcome
      → last_step run outcome ≡ run.steps → EndsWith known outcome
  ends_at outcome last is made = record {
    runner = known.runner;
    view = known.view;
    stands = known.stands;
    last = last;
    no_further = inl refl;
    is_outcome = is;
    made = made ∙ known.steps_is;
    cells = room_left known known.stands refl refl;
  }

  -- where a step would be made, but for the steps
  pub ends_by_steps : (HaltsAt table (steps_of known.runner) → ⊥) → run.steps ≡ bounds.steps
      → EndsWith known NoSteps
  ends_by_steps goes enough =
      let e : steps_of known.runner ≡ bounds.steps = sym known.steps_is ∙ enough in
      let last = steps_last table bounds (steps_of known.runner) inside e in
      ends_at NoSteps last
      (no_halt_inside table bounds (steps_of known.runner) inside last goes, rw e at inside.within_cells) refl

  -- or for the cells
  pub ends_by_cells : (HaltsAt table (steps_of known.runner) → ⊥) → run.steps ≢ bounds.steps
      → bounds.cells < span table (steps_of known.runner + 1) → EndsWith known NoCells
  ends_by_cells goes apart wide =
      let last = cells_last table bounds (steps_of known.runner) inside wide in
      ends_at NoCells last (
        no_halt_inside table bounds (steps_of known.runner) inside last goes,
        wide_at_end table bounds (steps_of known.runner) inside wide (λ e. apart (known.steps_is ∙ e)),
      ) refl

  -- at an entry that isn't defined
  pub ends_undefined : (f ones_are : ℕ)
      → IsPackedEntry f (symbol_at known.runner known.view) (applies table known.runner known.view)
      → bit_at f 8 ≡ 1 → (bit_at f 0 ≡ 1 → ⊥) → run.registers.bits < 2 ^ 64 → ones_are ≡ ones run.registers.bits
      → EndsWith known (outcomes.Halt run.steps ones_are)
  ends_undefined f ones_are packed stops apart fits counted =
      let halts = halts_undefined table known.runner known.view known.stands (is_undefined f _ _ packed stops apart) in
      ends_at (outcomes.Halt run.steps ones_are) (halts_last table bounds (steps_of known.runner) inside halts)
      (halted_end known.stands inside halts run.steps ones_are known.steps_is
      (counted ∙ sym (score-bits run.registers.bits fits) ∙ ap score (sym known.at.content))) refl

  module _ (two : symbols_of table ≡ 2) {f : ℕ}
      (goes : GoesToZ f (symbol_at known.runner known.view) (applies table known.runner known.view)) where
    -- into Z
    pub goes_into_Z : HaltsAt table (steps_of known.runner) → ⊥
    goes_into_Z = moves_on known.stands goes.is

    in_Z : Runner
    in_Z = record known.runner {
      state = Halt;
      position = beside goes.dir (position_of known.runner);
      steps = steps_of known.runner + 1;
    }

    view_in_Z : TapeView
    view_in_Z = written known.view (position_of known.runner) goes.write

    pub ends_in_Z : (ones_are : ℕ) → run.steps ≢ bounds.steps
        → flipped_bits run.registers.bits run.registers.head (bit_at f 6) < 2 ^ 64
        → ones_are ≡ ones (flipped_bits run.registers.bits run.registers.head (bit_at f 6))
        → EndsWith known (outcomes.Halt (run.steps + 1) ones_are)
    unfolding in_Z view_in_Z
    ends_in_Z ones_are apart fits counted =
        let small : goes.write < symbols_of table = omega (arith, goes.writes, two) in
        let is : Stepped known.stands goes.is in_Z view_in_Z =
        into_Z table known.runner known.view goes.write goes.dir Halt known.stands goes.is known.sound small in_Z view_in_Z
        (record { state = refl; head = refl; steps = refl; low = refl; high = refl }) refl in
        let room = fits_Z known.view goes.write goes.dir Halt table (beside goes.dir (position_of known.runner)) known.sound small in
        let go : Advances true table bounds known.runner in_Z known.view view_in_Z zero_meter
        (stepped zero_meter (cells_between (low_of in_Z) (high_of in_Z))) (Ok moved.Stepped) =
        made known.stands goes.is bounds in_Z view_in_Z zero_meter
        (stepped zero_meter (cells_between (low_of in_Z) (high_of in_Z))) known.sound room.1 known.limit
        (omega (arith, known.steps_is, known.few)) (λ e. apart (known.steps_is ∙ e)) room.0 is refl in
        let content = content_written known (bit_at f 6) goes.write (bit_at-lt f 6) goes.writes in
        let halts = halts_in_Z table in_Z view_in_Z go.stands refl in
        record {
          runner = in_Z;
          view = view_in_Z;
          stands = go.stands;
          last = halts_last table bounds (steps_of in_Z) go.reaches.0 halts;
          no_further = inr (refl, refl);
          is_outcome = halted_end go.stands go.reaches.0 halts (run.steps + 1) ones_are
              (ap (λ n. n + 1) known.steps_is) (counted ∙ sym (score-bits _ fits) ∙ ap score (sym content));
          made = ap (λ n. n + 1) known.steps_is;
          cells = room_left known go.stands refl refl;
        }
