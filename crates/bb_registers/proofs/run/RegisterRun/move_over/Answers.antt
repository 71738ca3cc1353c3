use Rattle.std.proofs.Common.{◌≡◌, ◌∙◌, ap, arith, subst, sym}
use Rattle.std.proofs.lemmas.Int.{ints}
use Rattle.bb_tape.specs.TapeView.{TapeView}
use Rattle.bb_sim.specs.Runner.{Stands}
use Rattle.bb_registers.specs.Registers.{IsRegisterRun}
use Rattle.bb_registers.proofs.InBlocks.{position_fits}
use Rattle.bb_registers.proofs.TapeBits.{bits_inside, lowest_is_low, same_views, window_ends, window_grows}
use Rattle.bb_registers.proofs.TapeBits.{window_some}
use Rattle.bb_registers.proofs.run.RegisterRun.move_over.Given as given
use Rattle.bb_registers.proofs.run.RegisterRun.move_over.Goals as goal
use Rattle.bb_registers.proofs.run.RegisterRun.move_over.Goals.{After-widen_window}

pub lowest_position-low-requires : goal.lowest_position-low-requires
lowest_position-low-requires g c = record { some = window_some c.requires.run }

pub overflow_sub-high : goal.overflow_sub-high
overflow_sub-high g c =
    let known = c.requires.run in
    let sound = known.sound in
    omega (arith, ints, window_ends known, sound.from_zero, sound.to_zero, c.cells.ensures.value)

pub overflow_sub-high-2 : goal.overflow_sub-high-2
overflow_sub-high-2 g c =
    let known = c.requires.run in
    let sound = known.sound in
    omega (arith, ints, window_ends known, sound.from_zero, sound.to_zero, c.cells.ensures.value)

pub overflow_cast-high : goal.overflow_cast-high
overflow_cast-high g c =
    let cells = c.show_accepted.ensures.accepted.cells in
    position_fits _ (omega (arith, ints)) (omega (arith, ints, c.cells.ensures.value, cells))

pub overflow_add-high : goal.overflow_add-high
overflow_add-high g c =
    let low = c.lowest_position-low.ensures in
    let cells = c.show_accepted.ensures.accepted.cells in
    position_fits _ (omega (arith, ints, low.position, low.within))
    (omega (arith, ints, low.position, low.within, c.cells.ensures.value, cells))

-- the window doesn't shrink
pub widen_window-requires-clause-from : goal.widen_window-requires-clause-from
widen_window-requires-clause-from g c =
    let known = c.requires.run in
    let low = lowest_is_low known _ c.lowest_position-low.ensures in
    let old = ap (λ (s : TapeView). s.low) (c.requires.tape c.requires.earlier) in
    omega (arith, ints, low, old, (window_grows c.requires.earlier known c.requires.order).0)

pub widen_window-requires-clause-to : goal.widen_window-requires-clause-to
widen_window-requires-clause-to g c =
    let known = c.requires.run in
    let low = lowest_is_low known _ c.lowest_position-low.ensures in
    let old = ap (λ (s : TapeView). s.high) (c.requires.tape c.requires.earlier) in
    let grows = window_grows c.requires.earlier known c.requires.order in
    omega (arith, ints, low, old, grows.1, window_ends known, c.cells.ensures.value)

pub widen_window-requires-clause-room : goal.widen_window-requires-clause-room
widen_window-requires-clause-room g c =
    let known = c.requires.run in
    let low = lowest_is_low known _ c.lowest_position-low.ensures in
    let limit = ap (λ (s : TapeView). s.limit) (c.requires.tape c.requires.earlier) ∙ c.requires.earlier.limit in
    omega (arith, ints, low, limit, window_ends known, c.cells.ensures.value)

-- the ends of the widened window
ends_are : (g : given.Over) (c : After-widen_window g)
    (known : IsRegisterRun c.args.machine.now c.args.limits.now c.args.self.now)
    → ((g.T.Tape.view c.widen_window.new.tape).low ≡ known.view.low)
    × ((g.T.Tape.view c.widen_window.new.tape).high ≡ known.view.high)
ends_are g c known =
    let low = lowest_is_low known _ c.lowest_position-low.ensures in (
      ap (λ (s : TapeView). s.low) c.widen_window.ensures ∙ omega (arith, ints, low, known.window_is.low_in_word),
      ap (λ (s : TapeView). s.high) c.widen_window.ensures
          ∙ omega (arith, ints, low, window_ends known, c.cells.ensures.value),
    )

pub write_bits-requires-clause-content : goal.write_bits-requires-clause-content
write_bits-requires-clause-content g c =
    ap (λ (s : TapeView). s.content) c.widen_window.ensures
    ∙ ap (λ (s : TapeView). s.content) (c.requires.tape c.requires.earlier) ∙ c.requires.earlier.at.content

pub write_bits-requires-clause-inside : goal.write_bits-requires-clause-inside
write_bits-requires-clause-inside g c i h set =
    let known = c.requires.run in
    let after = (goal.at.write_bits-requires-clause-inside g c).After-widen_window in
    let inside = bits_inside known i h set in
    let ends = ends_are g after known in
    (rw ends.0 inside.0, rw ends.1 inside.1)

-- the tape is that of the run
pub returns-clause-same : goal.returns-clause-same
returns-clause-same g c known =
    let ends = ends_are g (goal.at.returns-clause-same g c).After-widen_window known in
    let v = c.in-Ok.ensures.ok in
    same_views _ _
    (ap (λ (s : TapeView). s.content) v ∙ sym known.at.content)
    (ap (λ (s : TapeView). s.low) v ∙ ends.0)
    (ap (λ (s : TapeView). s.high) v ∙ ends.1)
    (ap (λ (s : TapeView). s.limit) v ∙ ap (λ (s : TapeView). s.limit) c.widen_window.ensures
    ∙ ap (λ (s : TapeView). s.limit) (c.requires.tape c.requires.earlier) ∙ c.requires.earlier.limit ∙ sym known.limit)

pub returns-clause-stands : goal.returns-clause-stands
returns-clause-stands g c =
    let known = c.requires.run in
    subst (Stands c.args.machine.now c.runner.result) (sym (returns-clause-same g c known)) (c.runner.ensures.stands known)
