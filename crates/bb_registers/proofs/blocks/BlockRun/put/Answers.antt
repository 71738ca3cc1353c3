use Rattle.std.proofs.Common.{◌≡◌, ◌∙◌, ◌+ℤ◌, FitsSigned, ap, arith, of_z, pos, subst, sym, to_z, w64}
use Rattle.std.proofs.lemmas.Int.{ints, to_z-of_z}
use Rattle.bb_machine.specs.declared.entry.Next.TheVariants.{State}
use Rattle.bb_sim.specs.Runner.{Stands, high_of, low_of}
use Rattle.bb_registers.proofs.InBlocks.{high_kept, order_kept, position_fits, tape_is}
use Rattle.bb_registers.proofs.TapeBits.{lowest_is_head, stands_as}
use Rattle.bb_registers.proofs.blocks.BlockRun.put.Given as given
use Rattle.bb_registers.proofs.blocks.BlockRun.put.Goals as goal
use Rattle.bb_registers.proofs.blocks.BlockRun.put.Goals.{After-lowest_position}

position_is : (g : given.Over) (c : After-lowest_position g)
    → to_z w64 (of_z w64 (to_z w64 (of_z w64 c.args.from) +ℤ pos 32)) +ℤ to_z w64 (of_z w64 c.lowest_position.result)
    ≡ c.args.from +ℤ pos c.requires.run.place
position_is g c =
    let known = c.requires.run in
    omega (
      arith,
      ints,
      lowest_is_head _ _ known.head _ c.lowest_position.ensures,
      known.within,
      known.block.low,
      known.block.high,
      known.sound.from_zero,
      known.sound.to_zero,
      known.sound.within,
      known.sound.limited,
    )

place_fits : (g : given.Over) (c : After-lowest_position g)
    → FitsSigned w64 (c.args.from +ℤ pos c.requires.run.place)
place_fits g c =
    let known = c.requires.run in
    position_fits _
    (omega (arith, ints, known.block.low, known.sound.to_zero, known.sound.within, known.sound.limited))
    (omega (
      arith,
      ints,
      known.within,
      known.block.high,
      known.sound.from_zero,
      known.sound.within,
      known.sound.limited,
    ))

pub unreachable-requires : goal.unreachable-requires
unreachable-requires g c =
    let grows = c.in_default.ensures.memory in
    let fixed = c.requires.fixed in
    cc

pub overflow_add-from : goal.overflow_add-from
overflow_add-from g c =
    let known = c.requires.run in
    let sound = known.sound in
    rw (to_z-of_z w64 _ c.ranges.from)
    (position_fits _ (omega (arith, ints, known.block.low, sound.to_zero, sound.within, sound.limited))
    (omega (arith, ints, known.block.high, sound.from_zero, sound.within, sound.limited)))

pub overflow_add-from-2 : goal.overflow_add-from-2
overflow_add-from-2 g c =
    let after = (goal.at.overflow_add-from-2 g c).After-lowest_position in
    subst (FitsSigned w64) (sym (position_is g after)) (place_fits g after)

pub returns-clause-stands : goal.returns-clause-stands
returns-clause-stands g c =
    let known = c.requires.run in
    let after = (goal.at.returns-clause-stands g c).After-lowest_position in
    let at = ap (λ p. to_z w64 (of_z w64 p)) (position_is g after) ∙ to_z-of_z w64 _ (place_fits g after) in
    let from = to_z-of_z w64 _ c.ranges.from in
    let view = tape_is known (rw from at c.in-Ok.ensures.ok) in
    let state : c.state.result ≡ known.state = omega (arith, c.state.ensures, known.entry) in
    let r = c.args.runner.now in
    let fits : FitsSigned w64 c.low.result = record { sfits = c.low.type_inv } in
    let read : to_z w64 (of_z w64 c.low.result) ≡ low_of r = to_z-of_z w64 _ fits ∙ c.low.ensures in
    let low : low_of r ≡ low_of known.runner = c.requires.low ∙ sym known.low ∙ known.stands.window_low in
    let high : high_of r ≡ high_of known.runner = c.requires.high ∙ sym known.high ∙ known.stands.window_high in
    subst (Stands c.args.machine.now c.at.result) (sym view)
    (stands_as known.stands
    (c.at.ensures.state ∙ ap State state ∙ sym known.state_is)
    (c.at.ensures.position ∙ at ∙ sym known.position)
    (c.at.ensures.steps ∙ known.steps_is)
    (c.at.ensures.low ∙ read ∙ low)
    (c.at.ensures.high ∙ high_kept (low_of r) (high_of r) _ _ read c.cells.ensures (order_kept known low high) ∙ high))
