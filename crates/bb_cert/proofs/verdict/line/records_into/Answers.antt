use Rattle.std.proofs.Common.{refl}
use Rattle.bb_cert.proofs.verdict.line.records_into.Goals as goal

pub returns-in-None : goal.returns-in-None
returns-in-None g c = rw (c.pair_into.ensures, c.side_words.ensures, c.in-None.is) refl
