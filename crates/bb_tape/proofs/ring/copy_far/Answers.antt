use Rattle.std.proofs.Common.{◌∙◌, arith}
use Rattle.std.proofs.lemmas.Int.{ints}
use Rattle.bb_tape.proofs.RingSteps.{all_clear, ring_copied}
use Rattle.bb_tape.proofs.ring.copy_far.Goals as goal

pub returns : goal.returns
returns c =
    let zero = all_clear c.args.to.now c.clear_ends.new.cells c.args.old.now c.upper.result c.lower_at.result
    c.requires.clear_to c.upper.ensures c.lower_at.ensures c.clear_ends.ensures.front
    c.clear_ends.ensures.back c.clear_ends.ensures.between in
    ring_copied c.copy_ends.new.to c.args.from.now c.args.new.now _ _
    (c.copy_ends.ensures.length ∙ c.clear_ends.ensures.length ∙ c.requires.same)
    c.requires.clear_from (omega (arith, ints, c.upper.ensures))
    (omega (arith, ints, c.lower_at.ensures)) c.copy_ends.ensures.front
    c.copy_ends.ensures.back
    (λ k from to. c.copy_ends.ensures.between k from to ∙ zero k)
