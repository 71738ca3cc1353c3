use Rattle.std.proofs.Common.{◌≡◌}
use Rattle.bb_tape.specs.Content.{blank}
use Rattle.bb_tape.specs.Entries.{content_of}
use Rattle.bb_tape.proofs.Sound.{sound_blank}
use Rattle.bb_tape.proofs.MapContent.{content_of-empty}
use Rattle.bb_tape.proofs.map.MapTape.new_in.Goals as goal

pub invariant_of-result : goal.invariant_of-result
invariant_of-result g c =
    let e : content_of c.new.result.entries ≡ blank = content_of-empty _ c.new.ensures.empty in
    record { sound = rw e (sound_blank c.new-2.result) }

pub returns : goal.returns
returns g c =
    let e : content_of c.new.result.entries ≡ blank = content_of-empty _ c.new.ensures.empty in
    cc
