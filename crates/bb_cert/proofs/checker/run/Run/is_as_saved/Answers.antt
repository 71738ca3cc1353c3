use Rattle.bb_cert.proofs.checker_lemmas.InRegisters.{same_registers}
use Rattle.bb_cert.proofs.claim_lemmas.Standing.{alike_of_same, same_of_alike}
use Rattle.bb_cert.proofs.checker.run.Run.is_as_saved.Goals as goal

pub returns-in-InRegisters : goal.returns-in-InRegisters
returns-in-InRegisters g c table bounds there before =
    let one = rw c.in-InRegisters.is at there in
    let other = rw c.in-InRegisters.is at before in
    let alike = same_registers one.at other.at one.at.fits other.at.fits in
    let found = c.has_same_configuration.ensures in
    rw (c.in-InRegisters.is, one.steps_is, other.steps_is) (
      λ yes. same_of_alike one.stands other.stands (alike.0 (found.0 yes)),
      λ same. found.1 (alike.1 (alike_of_same one.stands other.stands same)),
    )

pub returns-in-OnTape : goal.returns-in-OnTape
returns-in-OnTape g c table bounds there before =
    let one = rw c.in-OnTape.is at there in
    let other = rw c.in-OnTape.is at before in
    rw c.in-OnTape.is (
      λ yes. same_of_alike one other (c.is_same.ensures.0 yes),
      λ same. c.is_same.ensures.1 (alike_of_same one other same),
    )
