use Rattle.std.proofs.Common.{◌≡◌, ◌≤◌, ◌<◌, ◌-◌, ◌+◌, ◌*◌, ℕ}
use Rattle.bb_sim.specs.Runner.{steps_of}
use Rattle.laws_of_recurrence.specs.Recurrence.{transition_at}
use Rattle.bb_recurrence.specs.Pairs.{IsAtStep}
use Rattle.bb_recurrence.specs.Tapes.{TapesHaveCells}
use Rattle.bb_recurrence.proofs.lockstep.Lockstep.are_alike.Given as goal

-- both have come so far, and have used the same transitions up to there
abbrev pub invariant-loop-self : goal.invariant-loop-self
invariant-loop-self g l = record {
  at : IsAtStep l.pair (steps_of l.self.runner) l.self.runner (g.T.Tape.view l.tapes.pair.run);
  ahead : IsAtStep l.pair (steps_of l.self.ahead) l.self.ahead (g.T.Tape.view l.tapes.ahead);
  saved : g.T.Tape.view l.tapes.pair.saved ≡ g.T.Tape.view l.fn.tapes.pair.saved;
  tapes : TapesHaveCells g.T.Tape.view l.pair.limits.now.cells l.tapes;
  later : steps_of l.fn.self.runner ≤ steps_of l.self.runner;
  apart : steps_of l.self.ahead
      ≡ steps_of l.self.runner + (steps_of l.fn.self.ahead - steps_of l.fn.self.runner);
  same : (n : ℕ) → steps_of l.fn.self.runner ≤ n → n < steps_of l.self.runner
      → transition_at l.pair.machine.now (n + (steps_of l.fn.self.ahead - steps_of l.fn.self.runner))
      ≡ transition_at l.pair.machine.now n;
  near : steps_of l.self.ahead - steps_of l.fn.self.ahead ≤ l.end - steps_of l.fn.self.ahead;
  counted : l.meter.steps ≡ l.fn.meter.steps + 2 * (steps_of l.self.ahead - steps_of l.fn.self.ahead);
}

abbrev pub decreases-loop-self : goal.decreases-loop-self
decreases-loop-self g l = l.end - steps_of l.self.ahead
