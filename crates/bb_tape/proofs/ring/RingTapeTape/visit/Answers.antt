use Rattle.std.proofs.Common.{refl, w64}
use Rattle.std.proofs.lemmas.Int.{to_z-of_z}
use Rattle.bb_tape.specs.Ring.{ring_content}
use Rattle.bb_tape.specs.Windowed.{view_of}
use Rattle.bb_tape.proofs.Outcome.{refuted}
use Rattle.bb_tape.proofs.Room.{past_full}
use Rattle.bb_tape.proofs.ring.RingTapeTape.visit.Goals as goal

pub returns-then-is_full-clause-ok : goal.returns-then-is_full-clause-ok
returns-then-is_full-clause-ok c = tt

pub returns-then-is_full-clause-cells : goal.returns-then-is_full-clause-cells
returns-then-is_full-clause-cells c =
    let a = c.args.self.now in (
      λ _. past_full (view_of (ring_content a.cells.items a.window) a.window) c.args.p a.sound
          (c.is_full.ensures.0 c.if-is_full.true)
          (refuted c.has.result c.if-has.false (rw (to_z-of_z w64 _ c.ranges.p) at c.has.ensures)),
      λ _. refl,
    )
