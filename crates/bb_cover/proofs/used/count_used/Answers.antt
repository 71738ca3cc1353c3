use Rattle.std.proofs.Common.{arith, below_more}
use Rattle.bb_cover.proofs.Useds.{needs_more, uses}
use Rattle.bb_cover.proofs.used.count_used.Goals as goal

pub loop-state-preserved : goal.loop-state-preserved
loop-state-preserved c =
    let here = c.loop-state.invariant in
    let call = c.take_in_row.ensures in
    record {
      some = omega arith;
      some_symbol = omega arith;
      needs = below_more _ _
          (λ q h s h'. needs_more q s _ _ _ _ _ call.states call.symbols (here.needs q h s h'))
          call.needs;
      least = λ n k a b all.
          let old = here.least n k a b (λ q h. all q (omega arith)) in
          call.least n k (all c.loop-state.state (omega arith)) old.0 old.1;
      few = call.few here.few;
      few_symbols = call.few_symbols here.few_symbols;
    }

pub returns-clause-uses : goal.returns-clause-uses
returns-clause-uses c =
    let here = c.loop-state.invariant in
    uses c.args.machine.now c.states-state-end.ensures.machine c.loop-state.used.states
    c.loop-state.used.symbols here.some here.some_symbol (λ q h. here.needs q (omega arith))
    (λ n k a b all. here.least n k a b (λ q h. all q (omega arith)))
