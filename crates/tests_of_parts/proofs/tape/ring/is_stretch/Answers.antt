use Rattle.std.proofs.Common.{arith}
use Rattle.std.proofs.lemmas.Int.{ints}
use Rattle.tests_of_parts.proofs.tape.ring.is_stretch.Goals as goal

pub returns-then-low-from : goal.returns-then-low-from
returns-then-low-from g c =
    λ t k h. (
      grind (arith, ints, c.if-low-from.true, c.low.ensures),
      grind (arith, ints, c.high.ensures, c.from.ensures, t, h),
    )
