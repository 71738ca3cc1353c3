use Rattle.std.proofs.Common.{◌≡◌, ◌<ℤ◌, ◌≤ℤ◌, ◌+ℤ◌, pos, refl, sym, ◌∙◌, w64, FitsSigned, IsTrue, arith}
use Rattle.std.proofs.Common.{rules}
use Rattle.std.proofs.lemmas.Int.{ints, clamps, to_z-of_z}
use Rattle.std.specs.Prelude.{◌≢◌}
use Rattle.bb_tape.specs.TapeView.{IsInside, width}
use Rattle.bb_sim.specs.Runner.{low_of, high_of}
use Rattle.bb_sim.proofs.Positions.{min-same, max-same}
use Rattle.bb_sim.proofs.Standing.{inside_fits, inside_stays, room_left, fits_next, next_above}
use Rattle.bb_sim.proofs.Standing.{high_stays, high_grows}
use Rattle.bb_sim.proofs.runner.Runner.enter.Given as given
use Rattle.bb_sim.proofs.runner.Runner.enter.Goals as goal
use Rattle.bb_sim.proofs.runner.Runner.enter.Goals.{Else-self-cells}

not_full : (g : given.Over) (c : Else-self-cells g)
    → c.args.self.now.cells ≢ (g.T.Tape.view c.args.tape.now).limit
not_full g c e = c.if-self-cells.false (e ∙ c.requires.limit ∙ sym c.cells.ensures.value)

-- the window has room for a cell more
room : (g : given.Over) (c : Else-self-cells g)
    → width (g.T.Tape.view c.args.tape.now) <ℤ pos (g.T.Tape.view c.args.tape.now).limit
room g c =
    room_left c.args.self.now (g.T.Tape.view c.args.tape.now) c.args.position
    (g.met.T.Tape.sound c.args.tape.now) c.requires.low c.requires.high (not_full g c)

pub is_inside-requires-clause-low : goal.is_inside-requires-clause-low
is_inside-requires-clause-low g c =
    rw (to_z-of_z w64 _ c.ranges.position) (rw (← c.requires.low) c.requires.near.0)

pub is_inside-requires-clause-high : goal.is_inside-requires-clause-high
is_inside-requires-clause-high g c =
    rw (to_z-of_z w64 _ c.ranges.position) (rw (← c.requires.high) c.requires.near.1)

pub returns-then-is_inside : goal.returns-then-is_inside
returns-then-is_inside g c =
    let view = g.T.Tape.view c.args.tape.now in
    let position_fits : FitsSigned w64 c.args.position = c.ranges.position in
    let yes : IsTrue c.is_inside.result = search rules in
    let inside = (simp to_z-of_z at c.is_inside.ensures).0 yes in
    let here : IsInside view c.args.position = (rw c.requires.low inside.0, rw c.requires.high inside.1) in (
      inside_fits view c.args.position (g.met.T.Tape.sound c.args.tape.now) here,
      sym (inside_stays view c.args.position here),
      record {
        state = refl;
        head = refl;
        steps = refl;
        low = sym (min-same _ _ inside.0);
        high = sym (max-same _ _ inside.1);
      },
    )

pub widen_low-requires-clause-next : goal.widen_low-requires-clause-next
widen_low-requires-clause-next g c =
    let position_fits : FitsSigned w64 c.args.position = c.ranges.position in
    let low_fits : FitsSigned w64 c.args.self.now.low = search rules in
    let below : c.args.position <ℤ c.args.self.now.low = search rules in
    simp to_z-of_z (omega (arith, ints, c.requires.near.0, c.requires.low, below))

pub widen_low-requires-clause-room : goal.widen_low-requires-clause-room
widen_low-requires-clause-room g c = room g (goal.at.widen_low-requires-clause-room g c).Else-self-cells

pub overflow_add-self : goal.overflow_add-self
overflow_add-self g c = omega (arith, c.args.self.now.few_cells)

pub widen_high-requires-clause-next : goal.widen_high-requires-clause-next
widen_high-requires-clause-next g c =
    let runner = c.args.self.now in
    let position_fits : FitsSigned w64 c.args.position = c.ranges.position in
    let low_fits : FitsSigned w64 runner.low = search rules in
    let at : runner.low ≤ℤ c.args.position = search rules in
    let test = simp to_z-of_z at c.is_inside.ensures in
    let outside : (low_of runner ≤ℤ c.args.position) × (c.args.position ≤ℤ high_of runner) → ⊥ = λ h.
    let yes : IsTrue c.is_inside.result = test.1 h in absurd (search rules) in
    simp to_z-of_z (next_above runner (g.T.Tape.view c.args.tape.now) c.args.position
    (g.met.T.Tape.sound c.args.tape.now) c.requires.low c.requires.high outside c.requires.near at)

pub widen_high-requires-clause-room : goal.widen_high-requires-clause-room
widen_high-requires-clause-room g c = room g (goal.at.widen_high-requires-clause-room g c).Else-self-cells

pub invariant_of-self : goal.invariant_of-self
invariant_of-self g c =
    let runner = c.args.self.now in
    let sound = g.met.T.Tape.sound c.args.tape.now in
    let position_fits : FitsSigned w64 c.args.position = c.ranges.position in
    let low_fits : FitsSigned w64 runner.low = search rules in
    let below : c.args.position <ℤ runner.low = search rules in
    let near : runner.low ≤ℤ (c.args.position +ℤ pos 1) = rw (← c.requires.low) c.requires.near.0 in
    let fits = room g (goal.at.invariant_of-self g c).Else-self-cells in
    record {
      some_cell = omega arith;
      few_cells = omega (arith, ints, fits, sound.limited, c.requires.low, c.requires.high);
      low_to_zero = simp to_z-of_z (omega (arith, ints, runner.low_to_zero, below));
      low_small = simp to_z-of_z
          (omega (arith, ints, fits, sound.limited, sound.to_zero, c.requires.low, c.requires.high, near));
    }

pub invariant_of-self-2 : goal.invariant_of-self-2
invariant_of-self-2 g c =
    let runner = c.args.self.now in
    let sound = g.met.T.Tape.sound c.args.tape.now in
    let fits = room g (goal.at.invariant_of-self-2 g c).Else-self-cells in
    record {
      some_cell = omega arith;
      few_cells = omega (arith, ints, fits, sound.limited, c.requires.low, c.requires.high);
      low_to_zero = runner.low_to_zero;
      low_small = runner.low_small;
    }

pub returns-then-position-self : goal.returns-then-position-self
returns-then-position-self g c =
    let runner = c.args.self.now in
    let view = g.T.Tape.view c.args.tape.now in
    let sound = g.met.T.Tape.sound c.args.tape.now in
    let position_fits : FitsSigned w64 c.args.position = c.ranges.position in
    let low_fits : FitsSigned w64 runner.low = search rules in
    let below : c.args.position <ℤ runner.low = search rules in
    let near : runner.low ≤ℤ (c.args.position +ℤ pos 1) = rw (← c.requires.low) c.requires.near.0 in (
      fits_next runner view c.args.position sound c.requires.low c.requires.high
          (not_full g (goal.at.returns-then-position-self g c).Else-self-cells) c.requires.near,
      simp to_z-of_z at c.widen_low.ensures,
      record {
        state = refl;
        head = refl;
        steps = refl;
        low = simp to_z-of_z (omega (arith, ints, clamps, below));
        high = simp to_z-of_z
            (high_stays runner.low c.args.position runner.cells runner.some_cell below near);
      },
    )

pub returns : goal.returns
returns g c =
    let runner = c.args.self.now in
    let view = g.T.Tape.view c.args.tape.now in
    let sound = g.met.T.Tape.sound c.args.tape.now in
    let position_fits : FitsSigned w64 c.args.position = c.ranges.position in
    let low_fits : FitsSigned w64 runner.low = search rules in
    let at : runner.low ≤ℤ c.args.position = search rules in
    let test = simp to_z-of_z at c.is_inside.ensures in
    let outside : (low_of runner ≤ℤ c.args.position) × (c.args.position ≤ℤ high_of runner) → ⊥ = λ h.
    let yes : IsTrue c.is_inside.result = test.1 h in absurd (search rules) in
    let next =
    next_above runner view c.args.position sound c.requires.low c.requires.high outside c.requires.near at in
    let above : c.args.position ≡ high_of runner +ℤ pos 1 = rw (← c.requires.high) next in (
      fits_next runner view c.args.position sound c.requires.low c.requires.high
          (not_full g (goal.at.returns g c).Else-self-cells) c.requires.near,
      simp to_z-of_z at c.widen_high.ensures,
      record {
        state = refl;
        head = refl;
        steps = refl;
        low = omega (arith, ints, clamps, above, runner.some_cell);
        high = high_grows runner.low c.args.position runner.cells above;
      },
    )
