use Rattle.std.proofs.Common.{arith}
use Rattle.bb_cert.proofs.checker.checking.ring_pair.Goals as goal

pub returns-clause-path : goal.returns-clause-path
returns-clause-path c = omega (arith, c.in_ok-path.ensures)
