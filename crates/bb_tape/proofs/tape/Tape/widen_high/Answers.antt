use Rattle.std.proofs.Common.{w64}
use Rattle.std.proofs.lemmas.Int.{to_z-of_z}
use Rattle.bb_tape.proofs.Outcome.{admitted}
use Rattle.bb_tape.proofs.Room.{beside_above, room_above}
use Rattle.bb_tape.proofs.tape.Tape.widen_high.Goals as goal

pub visit-above-requires : goal.visit-above-requires
visit-above-requires g c =
    rw (to_z-of_z w64 _ c.ranges.p)
    (beside_above (g.Self.Tape.view c.args.self.now) c.args.p (g.met.Self.Tape.sound c.args.self.now)
    c.requires.next)

pub returns : goal.returns
returns g c =
    let p = to_z-of_z w64 _ c.ranges.p in
    admitted c.visit-above.result (rw p at c.visit-above.ensures.ok) c.visit-above.ensures.memory
    (rw p at c.visit-above.ensures.cells)
    (room_above (g.Self.Tape.view c.args.self.now) c.args.p (g.met.Self.Tape.sound c.args.self.now)
    c.requires.next c.requires.room)
