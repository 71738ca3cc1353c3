use Rattle.std.proofs.Common.{refl}
use Rattle.cover.proofs.AssumedLines.{all_assumed, first_wrong_found}
use Rattle.cover.proofs.assumed.read_assumed.Goals as goal

pub returns-in-None-clause-texts : goal.returns-in-None-clause-texts
returns-in-None-clause-texts g c =
    let ends = c.in_ok-drain_lines.ensures.ends in (
      ends.0,
      ends.1,
      ends.2.0,
      all_assumed _ _ c.drain_lines.new.sink refl refl (rw c.new.ensures.items refl) ends.2.1 c.in-None.is,
    )

pub returns-in-Some-clause-wrong : goal.returns-in-Some-clause-wrong
returns-in-Some-clause-wrong g c =
    let ends = c.in_ok-drain_lines.ensures.ends in (
      ends.0,
      ends.1,
      ends.2.0,
      first_wrong_found _ _ c.drain_lines.new.sink _ refl refl (rw c.new.ensures.items refl) ends.2.1
          c.in-Some.is,
    )
