use Rattle.std.proofs.Common.{◌≡◌, ◌∙◌, ap, arith, sym}
use Rattle.std.proofs.lemmas.Int.{ints}
use Rattle.bb_machine.specs.declared.entry.Next.TheVariants.{State}
use Rattle.bb_registers.proofs.TapeBits.{head_some, lowest_is_head, lowest_is_low, stands_as, window_ends}
use Rattle.bb_registers.proofs.TapeBits.{window_some}
use Rattle.bb_registers.proofs.run.RegisterRun.runner.Goals as goal

pub lowest_position-position-requires : goal.lowest_position-position-requires
lowest_position-position-requires c = record { some = head_some c.requires.run }

pub lowest_position-low-requires : goal.lowest_position-low-requires
lowest_position-low-requires c = record { some = window_some c.requires.run }

pub at-requires-clause-low_to_zero : goal.at-requires-clause-low_to_zero
at-requires-clause-low_to_zero c =
    let known = c.requires.run in
    let low = lowest_is_low known _ c.lowest_position-low.ensures in
    omega (arith, ints, low, known.sound.from_zero)

pub returns-clause-stands : goal.returns-clause-stands
returns-clause-stands c known =
    let low = lowest_is_low known _ c.lowest_position-low.ensures in
    let head = lowest_is_head _ _ known.at.head _ c.lowest_position-position.ensures in
    let state : c.state.result ≡ known.at.state = omega (arith, c.state.ensures, known.at.entry) in
    stands_as known.stands
    (c.at.ensures.state ∙ ap State state ∙ sym known.at.state_is)
    (c.at.ensures.position ∙ omega (arith, ints, head, known.at.position, known.at.within))
    (c.at.ensures.steps ∙ known.steps_is)
    (c.at.ensures.low ∙ omega (arith, ints, low, known.window_is.low_in_word, known.stands.window_low))
    (c.at.ensures.high
    ∙ omega (arith, ints, low, window_ends known, c.cells.ensures.value, known.stands.window_high))
