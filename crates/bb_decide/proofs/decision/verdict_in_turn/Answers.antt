use Rattle.bb_sim.specs.Outcome.{HaltsNowhere}
use Rattle.bb_decide.proofs.Costs.{verdict_of_deciders, cost_of_halt, cost_of_deciders}
use Rattle.bb_decide.proofs.decision.verdict_in_turn.Given as given
use Rattle.bb_decide.proofs.decision.verdict_in_turn.Goals as goal
use Rattle.bb_decide.proofs.decision.verdict_in_turn.Goals.{After-find, in-NoSteps, in-NoCells}

pub returns-in-Halt-clause-counted : goal.returns-in-Halt-clause-counted
returns-in-Halt-clause-counted g c =
    let outcome = rw c.in-Halt.is at c.in_ok-steps.ensures.outcome in
    cost_of_halt _ c.new.ensures c.in_ok-steps.ensures.counted _ outcome.0

-- a limit ended the run
nowhere : (g : given.Over) (c : After-find g) → HaltsNowhere c.args.machine.now c.args.limits.now
nowhere g c = elim c.match-branch-2.branch [
  | in-NoSteps w ↦ (rw w.in-NoSteps.is at c.in_ok-steps.ensures.outcome).0
  | in-NoCells w ↦ (rw w.in-NoCells.is at c.in_ok-steps.ensures.outcome).0
]

pub returns-in-Some-clause-counted : goal.returns-in-Some-clause-counted
returns-in-Some-clause-counted g c =
    cost_of_deciders _ c.new.ensures c.in_ok-steps.ensures.counted
    (nowhere g (goal.at.returns-in-Some-clause-counted g c).After-find) _ c.in_ok-verdict.ensures.counted

pub returns-in-None-clause-counted : goal.returns-in-None-clause-counted
returns-in-None-clause-counted g c =
    cost_of_deciders _ c.new.ensures c.in_ok-steps.ensures.counted
    (nowhere g (goal.at.returns-in-None-clause-counted g c).After-find) _ c.in_ok-verdict.ensures.counted

pub returns-in-Some-clause-verdict : goal.returns-in-Some-clause-verdict
returns-in-Some-clause-verdict g c =
    verdict_of_deciders c.args.machine.now c.args.limits.now c.args.plan _
    (nowhere g (goal.at.returns-in-Some-clause-verdict g c).After-find)
    (rw c.in-Some.is at c.in_ok-verdict.ensures.found)

pub returns-in-None-clause-verdict : goal.returns-in-None-clause-verdict
returns-in-None-clause-verdict g c =
    let found = rw c.in-None.is at c.in_ok-verdict.ensures.found in
    elim c.match-branch-2.branch [
      | in-NoSteps w ↦ rw w.why-is (rw w.in-NoSteps.is at c.in_ok-steps.ensures.outcome, found)
      | in-NoCells w ↦ rw w.why-is (rw w.in-NoCells.is at c.in_ok-steps.ensures.outcome, found)
    ]
