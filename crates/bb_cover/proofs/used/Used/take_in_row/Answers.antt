use Rattle.std.proofs.Common.{arith, below_more}
use Rattle.bb_cover.proofs.Useds.{needs_more}
use Rattle.bb_cover.proofs.used.Used.take_in_row.Goals as goal

pub loop-symbol-preserved : goal.loop-symbol-preserved
loop-symbol-preserved c =
    let here = c.loop-symbol.invariant in
    let call = c.take_in.ensures in
    let value = c.entry-entry.ensures.value in
    record {
      states = omega arith;
      symbols = omega arith;
      needs = below_more _ _
          (λ s h. needs_more c.args.state s _ _ _ _ _ call.states call.symbols (here.needs s h))
          (rw value at call.needs);
      least = λ n k all a b.
          let old = here.least n k (λ s h. all s (omega arith)) a b in
          call.least n k (rw value (all c.loop-symbol.symbol (omega arith))) old.0 old.1;
      few = λ h. call.few (here.few h);
      few_symbols = λ h. call.few_symbols (here.few_symbols h);
    }
