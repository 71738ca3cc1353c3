use Rattle.std.proofs.Common.{append_assoc}
use Rattle.bb_cert.proofs.verdict.line.line_into.Goals as goal

pub returns : goal.returns
returns c = rw (c.verdict_into.ensures, c.text_into.ensures.appended, append_assoc)
