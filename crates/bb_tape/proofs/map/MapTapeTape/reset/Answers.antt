use Rattle.std.proofs.Common.{◌≡◌}
use Rattle.bb_tape.specs.Content.{blank}
use Rattle.bb_tape.specs.Entries.{content_of}
use Rattle.bb_tape.proofs.Sound.{sound_blank}
use Rattle.bb_tape.proofs.MapContent.{content_of-empty}
use Rattle.bb_tape.proofs.map.MapTapeTape.reset.Goals as goal

pub invariant_of-self : goal.invariant_of-self
invariant_of-self g c =
    let e : content_of c.clear.new.self.entries ≡ blank = content_of-empty _ c.clear.ensures.empty in
    record { sound = rw e (sound_blank c.new-self.result) }

pub returns : goal.returns
returns g c =
    let e : content_of c.clear.new.self.entries ≡ blank = content_of-empty _ c.clear.ensures.empty in
    cc
