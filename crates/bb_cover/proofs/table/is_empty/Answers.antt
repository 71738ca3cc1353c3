use Rattle.std.proofs.Common.{arith, refl}
use Rattle.bb_cover.proofs.Tables.{everywhere_empty}
use Rattle.bb_cover.proofs.table.is_empty.Goals as goal

pub returns : goal.returns
returns c = (
  λ holds. everywhere_empty c.args.machine.now c.states-state-end.ensures.machine
      (λ q h. c.loop-state.invariant q (omega (arith, h))),
  λ empty. refl,
)
