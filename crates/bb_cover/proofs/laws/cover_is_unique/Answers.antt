use Rattle.bb_cover.proofs.Uniqueness.{cover_is_unique}
use Rattle.bb_cover.proofs.laws.cover_is_unique.Goals as goal

pub returns : goal.returns
returns c = record { unique = cover_is_unique }
