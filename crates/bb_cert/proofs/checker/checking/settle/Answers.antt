use Rattle.bb_cert.proofs.checker.checking.settle.Goals as goal

pub returns-in-Undecided : goal.returns-in-Undecided
returns-in-Undecided c = rw c.in-Undecided.is tt
