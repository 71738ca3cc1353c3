use Rattle.std.proofs.Common.{◌∙◌, ap, arith, w64}
use Rattle.std.proofs.lemmas.Int.{ints}
use Rattle.std.specs.Int.{trailing_zeros}
use Rattle.bb_cert.proofs.Facts.{place_is}
use Rattle.bb_decide.proofs.register_records.position_of_bit.Goals as goal

pub returns-clause-is : goal.returns-clause-is
returns-clause-is c k h is =
    let place = ap (trailing_zeros w64) is ∙ place_is k h in
    omega (arith, ints, place, c.from.ensures, h)
