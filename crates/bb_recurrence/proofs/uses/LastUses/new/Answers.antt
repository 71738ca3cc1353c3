use Rattle.bb_recurrence.proofs.EntryUses.{none_seen}
use Rattle.bb_recurrence.proofs.uses.LastUses.new.Goals as goal

pub returns : goal.returns
returns c = λ table machine q s below inside. none_seen table machine q s below inside
