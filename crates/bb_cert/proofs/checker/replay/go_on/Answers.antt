use Rattle.std.proofs.Common.{◌+◌, ◌∙◌, arith, ap, sym, refl}
use Rattle.std.proofs.Common.{IsTrue}
use Rattle.bb_cert.specs.checker.Course.{IsReadAt}
use Rattle.bb_sim.specs.Runner.{steps_of}
use Rattle.bb_cert.proofs.checker.replay.go_on.Given as given
use Rattle.bb_cert.proofs.checker.replay.go_on.Goals as goal
use Rattle.bb_cert.proofs.checker.replay.go_on.Goals.{After-symbol-symbol, else-READS, then-READS}

-- the symbol is read, if either course wants it
module _ (g : given.Over) (c : After-symbol-symbol g) where
  own_wants : IsTrue g.C.Course.READS → IsTrue c.if-READS.symbol
  own_wants own = elim c.if-READS.branch [
    | then-READS w ↦ w.symbol-is ∙ w.if-READS.true
    | else-READS w ↦ let is = c.READS.ensures in let isnt = w.if-READS.false in absurd cc
  ]

  other_wants : IsTrue g.A.Course.READS → IsTrue c.if-READS.symbol
  other_wants other = elim c.if-READS.branch [
    | then-READS w ↦ w.symbol-is ∙ w.if-READS.true
    | else-READS w ↦ let is = w.READS-else-READS.ensures in let same = w.symbol-is in cc
  ]

  reads : IsTrue c.if-READS.symbol → IsReadAt c.args.machine.now (steps_of c.runner-before.result) c.symbol-symbol.result
  reads wants = rw c.runner-before.ensures.at (c.symbol-symbol.ensures _ _ _ c.loop-run.invariant.under_way wants)

pub runner-after-requires : goal.runner-after-requires
runner-after-requires g c = record {
  run = record {
    tape = g.T.Tape.view c.advance.new.tape;
    meter = c.advance.new.meter;
    is = (rw c.in-There.is at c.in_ok-progress.ensures.progress).0;
  };
}

pub take_in-requires : goal.take_in-requires
take_in-requires g c =
    let progress = rw c.in-There.is at c.in_ok-progress.ensures.progress in
    let before = c.runner-before.ensures in
    let after = c.runner-after.ensures in
    record {
      before = record { view = before.view; stands = before.stands; at = refl };
      read = λ asked.
          let at = (goal.at.take_in-requires g c).After-symbol-symbol in reads g at (own_wants g at asked);
      after = record {
        view = after.view;
        stands = after.stands;
        at = after.at ∙ progress.1 ∙ ap (λ n. n + 1) (sym before.at);
      };
    }

pub take_in-requires-in-loop-run-clause-read : goal.take_in-requires-in-loop-run-clause-read
take_in-requires-in-loop-run-clause-read g c = λ asked.
    let at = (goal.at.take_in-requires-in-loop-run-clause-read g c).After-symbol-symbol in
    reads g at (other_wants g at asked)

pub loop-run-init : goal.loop-run-init
loop-run-init g c = record {
  under_way = c.requires.under_way;
  counted = c.requires.counted;
  ahead = c.requires.ahead;
  further = omega arith;
  limit = refl;
  goes_on = g.met.C.Course.stays _ _ _;
  goes_along = g.met.A.Course.stays _ _ _;
}

pub loop-run-preserved : goal.loop-run-preserved
loop-run-preserved g c =
    let here = c.loop-run.invariant in
    let progress = rw c.in-There.is at c.in_ok-progress.ensures.progress in
    let before = c.runner-before.ensures in
    record {
      under_way = progress.0;
      counted = c.advance.ensures.within;
      ahead = omega (arith, progress.1, c.loop-run-test.true, c.steps.ensures);
      further = omega (arith, progress.1, here.further);
      limit = c.advance.ensures.limit ∙ here.limit;
      goes_on = g.met.C.Course.goes_further _ _ _ _ _ _ _ here.goes_on
          (rw (before.at, sym progress.1) at c.take_in.ensures);
      goes_along = g.met.A.Course.goes_further _ _ _ _ _ _ _ here.goes_along
          (rw (before.at, sym progress.1) at c.take_in-in-loop-run.ensures);
    }
