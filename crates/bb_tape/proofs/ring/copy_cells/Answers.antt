use Rattle.std.proofs.Common.{◌∙◌, arith}
use Rattle.std.proofs.lemmas.Int.{ints}
use Rattle.bb_tape.proofs.RingSteps.{ring_copied}
use Rattle.bb_tape.proofs.ring.copy_cells.Goals as goal

pub returns-then-is_near-2 : goal.returns-then-is_near-2
returns-then-is_near-2 c =
    let old = c.is_near.ensures.0 c.if-is_near.true in
    let new = c.is_near-then-is_near.ensures.0 c.if-is_near-2.true in
    ring_copied c.copy_ends.new.to c.args.from.now c.args.new.now _ _
    (c.copy_ends.ensures.length ∙ c.requires.same) c.requires.clear_from new.1
    (omega (arith, ints, new.0, new.2, c.requires.whole_from)) c.copy_ends.ensures.front
    c.copy_ends.ensures.back
    (λ k from to. c.copy_ends.ensures.between k from to
    ∙ c.requires.clear_to k (omega (arith, ints, old.1, from))
    (omega (arith, ints, old.0, to, c.requires.same, c.requires.whole_to)))
