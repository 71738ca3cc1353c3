use Rattle.std.proofs.Common.{w64}
use Rattle.std.proofs.lemmas.Int.{to_z-of_z}
use Rattle.bb_tape.proofs.ring.RingTapeTape.read.Goals as goal

pub returns-then-has : goal.returns-then-has
returns-then-has c = rw (to_z-of_z w64 _ c.ranges.p) at c.read_inside.ensures
