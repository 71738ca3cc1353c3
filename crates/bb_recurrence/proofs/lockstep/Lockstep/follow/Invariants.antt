use Rattle.std.proofs.Common.{◌≡◌, ◌≤◌, ◌-◌, ◌+◌, ◌*◌}
use Rattle.bb_sim.specs.Runner.{steps_of}
use Rattle.laws_of_recurrence.specs.Seen.{IsSeenStart}
use Rattle.bb_recurrence.specs.LastUses.{AreRecorded}
use Rattle.bb_recurrence.specs.Pairs.{IsAtStep, distance_of}
use Rattle.bb_recurrence.specs.Tapes.{TapesHaveCells}
use Rattle.bb_recurrence.proofs.lockstep.Lockstep.follow.Given as goal

-- both runs have come so far, and the start and the last uses are seen up to there
abbrev pub invariant-loop-self : goal.invariant-loop-self
invariant-loop-self g l = record {
  at : IsAtStep l.pair (steps_of l.self.runner) l.self.runner (g.T.Tape.view l.tapes.pair.run);
  ahead : IsAtStep l.pair (steps_of l.self.runner + distance_of l.pair) l.self.ahead
      (g.T.Tape.view l.tapes.ahead);
  tapes : TapesHaveCells g.T.Tape.view l.pair.limits.now.cells l.tapes;
  apart : steps_of l.self.ahead ≡ steps_of l.self.runner + distance_of l.pair;
  within : steps_of l.self.runner ≤ l.pair.first;
  seen_start : IsSeenStart l.pair.machine.now (steps_of l.self.runner) (distance_of l.pair) l.start;
  recorded : AreRecorded l.pair.machine.now (steps_of l.self.ahead) l.uses;
  counted : l.meter.steps ≡ l.fn.meter.steps + 2 * steps_of l.self.runner;
}

abbrev pub decreases-loop-self : goal.decreases-loop-self
decreases-loop-self g l = l.pair.first - steps_of l.self.runner
