use Rattle.std.proofs.Common.{◌≡◌, ap}
use Rattle.bb_tape.specs.Content.{blank}
use Rattle.bb_tape.specs.Entries.{content_of}
use Rattle.bb_tape.proofs.Sound.{sound_blank}
use Rattle.bb_tape.proofs.MapContent.{content_of-empty}
use Rattle.bb_tape.proofs.Outcome.{at_ok}
use Rattle.bb_tape.proofs.map.MapTapeTape.copy_from.Goals as goal

pub invariant_of-self : goal.invariant_of-self
invariant_of-self g c =
    let e : content_of c.clear.new.self.entries ≡ blank = content_of-empty _ c.clear.ensures.empty in
    record { sound = rw e (sound_blank c.args.self.now.window) }

pub invariant_of-self-2 : goal.invariant_of-self-2
invariant_of-self-2 g c =
    let e : content_of c.copy_entries.new.to.entries ≡ content_of c.args.other.now.cells.entries =
    ap content_of {x =
    c.copy_entries.new.to.entries}
    (at_ok c.copy_entries.result c.if-is_err.ensures.negation c.copy_entries.ensures) in
    record { sound = rw e c.args.other.now.sound }
