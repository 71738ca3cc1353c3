use Rattle.std.proofs.lemmas.Bool.{both_ways, not-true, not-false}
use Rattle.bb_decide.proofs.Costs.{PassedCycles, counts_both, counts_cycles, counts_one, cycle_of_searches}
use Rattle.bb_decide.proofs.Costs.{if_ok_both, passed_off, passed_on}
use Rattle.bb_decide.proofs.decision.search_in_turn.Given as given
use Rattle.bb_decide.proofs.decision.search_in_turn.Goals as goal
use Rattle.bb_decide.proofs.decision.search_in_turn.Goals.{then-plan+in_ok-verdict+in-None, else-plan}

pub returns-in-Some-clause-found : goal.returns-in-Some-clause-found
returns-in-Some-clause-found g c =
    let found = rw c.in-Some.is at c.in_ok-verdict.ensures.found in
    cycle_of_searches c.args.machine.now c.args.limits.now c.args.plan _ c.if-plan.true found

pub returns-in-Some-clause-counted : goal.returns-in-Some-clause-counted
returns-in-Some-clause-counted g c =
    let found = rw c.in-Some.is at c.in_ok-verdict.ensures.found in
    let counted = rw c.in-Some.is at c.in_ok-verdict.ensures.counted in
    counts_cycles _ c.if-plan.true found counted

passed : (g : given.Over) (c : goal.Then-not-plan g)
    → PassedCycles c.args.machine.now c.args.limits.now c.args.plan c.args.meter.now c.if-plan.meter
passed g c = elim c.if-plan.branch [
  | then-plan+in_ok-verdict+in-None w ↦
      let found = rw w.in-None.is at w.in_ok-verdict.ensures.found in
      let counted = rw w.in-None.is at w.in_ok-verdict.ensures.counted in
      rw w.meter-is (passed_on w.if-plan.true found counted)
  | else-plan w ↦ passed_off w.if-plan.false w.meter-is
]

pub returns-then-not-plan-clause-found : goal.returns-then-not-plan-clause-found
returns-then-not-plan-clause-found g c =
    ((passed g c).passes, λ on. absurd (both_ways _ (not-true _ c.if-not-plan.true) on))

pub returns-then-not-plan-clause-counted : goal.returns-then-not-plan-clause-counted
returns-then-not-plan-clause-counted g c =
    counts_one (passed g c) (both_ways _ (not-true _ c.if-not-plan.true))

pub returns-clause-counted : goal.returns-clause-counted
returns-clause-counted g c =
    let passed : PassedCycles c.args.machine.now c.args.limits.now c.args.plan c.args.meter.now
    c.if-plan.meter = elim c.if-plan.branch [
      | then-plan+in_ok-verdict+in-None w ↦
          let found = rw w.in-None.is at w.in_ok-verdict.ensures.found in
          let counted = rw w.in-None.is at w.in_ok-verdict.ensures.counted in
          rw w.meter-is (passed_on w.if-plan.true found counted)
      | else-plan w ↦ passed_off w.if-plan.false w.meter-is
    ] in
    if_ok_both c.translated.result _ _ _ (counts_both passed (not-false _ c.if-not-plan.false))
    c.translated.ensures.found c.translated.ensures.counted
