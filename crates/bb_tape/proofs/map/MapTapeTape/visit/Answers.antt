use Rattle.std.proofs.Common.{◌∙◌, ap, arith, w64}
use Rattle.std.proofs.lemmas.Int.{ints, to_z-of_z}
use Rattle.bb_tape.specs.Entries.{content_of}
use Rattle.bb_tape.specs.Windowed.{view_of}
use Rattle.bb_tape.proofs.Outcome.{refuted}
use Rattle.bb_tape.proofs.Room.{above_is, room_left}
use Rattle.bb_tape.proofs.Sound.{sound_wider}
use Rattle.bb_tape.proofs.map.MapTapeTape.visit.Goals as goal

pub widen_low-requires-clause-room : goal.widen_low-requires-clause-room
widen_low-requires-clause-room g c = search room_left

pub invariant_of-self-else-p-self : goal.invariant_of-self-else-p-self
invariant_of-self-else-p-self g c =
    let a = c.args.self.now in
    let v = c.widen_high.new.self in
    let content = content_of a.cells.entries in
    let same = to_z-of_z w64 _ c.ranges.p in
    let wider = c.widen_high.ensures in
    let is = above_is (view_of content a.window) c.args.p {low = v.low} {high = v.high} {limit = v.limit}
    wider.low (wider.high ∙ same) wider.limit (omega (arith, ints, same, c.if-p-self.false))
    (refuted c.has.result c.if-has.false (rw same at c.has.ensures)) in
    record {
      sound = sound_wider content a.window c.args.p v a.sound (ap (λ s. s.low) is) (ap (λ s. s.high) is);
    }

pub returns-else-p-self-clause-ok : goal.returns-else-p-self-clause-ok
returns-else-p-self-clause-ok g c =
    let a = c.args.self.now in
    let same = to_z-of_z w64 _ c.ranges.p in
    above_is (view_of (content_of a.cells.entries) a.window) c.args.p (cc) (cc) (cc) (omega (arith, ints))
    (refuted c.has.result c.if-has.false (rw same at c.has.ensures))
