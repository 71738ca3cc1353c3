use Rattle.bb_cert.proofs.verdict_lemmas.Lines.{line_unique}
use Rattle.bb_cert.proofs.claims.laws.lines_differ.Goals as goal

pub returns : goal.returns
returns c = line_unique
