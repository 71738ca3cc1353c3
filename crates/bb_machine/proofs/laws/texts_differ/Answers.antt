use Rattle.bb_machine.proofs.LawLemmas.{text_unique}
use Rattle.bb_machine.proofs.laws.texts_differ.Goals as goal

pub returns : goal.returns
returns c a b p q same = text_unique a b p q same
