use Rattle.std.proofs.Common.{w64}
use Rattle.std.proofs.lemmas.Int.{to_z-of_z}
use Rattle.bb_tape.proofs.tape.Tape.read_inside.Goals as goal

pub returns : goal.returns
returns g c = rw (to_z-of_z w64 _ c.ranges.p) at c.read.ensures
