use Rattle.bb_cert.proofs.verdict_lemmas.Lengths.{line_of_smaller}
use Rattle.bb_cert.proofs.claims.laws.smaller_lines_are_lines.Goals as goal

pub returns : goal.returns
returns c = line_of_smaller
