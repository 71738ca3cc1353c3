use Rattle.std.proofs.Common.{w64}
use Rattle.std.proofs.lemmas.Int.{to_z-of_z}
use Rattle.bb_tape.proofs.Outcome.{admitted}
use Rattle.bb_tape.proofs.Room.{beside_below, room_below}
use Rattle.bb_tape.proofs.tape.Tape.widen_low.Goals as goal

pub visit-below-requires : goal.visit-below-requires
visit-below-requires g c =
    rw (to_z-of_z w64 _ c.ranges.p)
    (beside_below (g.Self.Tape.view c.args.self.now) c.args.p (g.met.Self.Tape.sound c.args.self.now)
    c.requires.next)

pub returns : goal.returns
returns g c =
    let p = to_z-of_z w64 _ c.ranges.p in
    admitted c.visit-below.result (rw p at c.visit-below.ensures.ok) c.visit-below.ensures.memory
    (rw p at c.visit-below.ensures.cells)
    (room_below (g.Self.Tape.view c.args.self.now) c.args.p (g.met.Self.Tape.sound c.args.self.now)
    c.requires.next c.requires.room)
