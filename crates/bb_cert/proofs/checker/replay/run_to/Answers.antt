use Rattle.std.proofs.Common.{subst, sym}
use Rattle.bb_sim.specs.Runner.{Stands}
use Rattle.bb_cert.specs.inside.Runs.{IsRun, StandsSaved, made_of}
use Rattle.bb_cert.proofs.checker.replay.run_to.Given as given
use Rattle.bb_cert.proofs.checker.replay.run_to.Goals as goal
use Rattle.bb_cert.proofs.checker.replay.run_to.Goals.{In-OnTape, in_default}
use Rattle.bb_cert.proofs.checker.replay.run_to.Goals.{in-InRegisters+in_ok-go_on+in-Outside+in_ok-runner-in-Outside}

-- the run on the tape, and what was taken in before
module _ (g : given.Over) (c : In-OnTape g) where
  on_tape : IsRun c.args.machine.now c.args.limits.now c.match-run.run (g.T.Tape.view c.match-run.pair.run)
      c.match-run.meter
  on_tape = elim c.match-run.branch [
    | in-InRegisters+in_ok-go_on+in-Outside+in_ok-runner-in-Outside w ↦ rw (w.run-is, w.pair-is, w.meter-is)
        w.in_ok-runner-in-Outside.ensures.under_way
    | in_default w ↦ rw (w.run-is, w.pair-is, w.meter-is) c.requires.run
  ]

  so_far : g.C.Course.goes_on c.args.machine.now (made_of c.args.run.now) (made_of c.match-run.run) c.args.course.now
      c.match-run.course
  so_far = elim c.match-run.branch [
    | in-InRegisters+in_ok-go_on+in-Outside+in_ok-runner-in-Outside w ↦
        let first = rw w.in-Outside.is at w.in_ok-go_on.ensures.progress in
        rw (w.run-is, w.course-is, w.in-InRegisters.is, w.in_ok-runner-in-Outside.ensures.steps) first.4
    | in_default w ↦ rw (w.run-is, w.course-is) (g.met.C.Course.stays _ _ _)
  ]

  along_so_far : g.A.Course.goes_on c.args.machine.now (made_of c.args.run.now) (made_of c.match-run.run) c.args.along.now
      c.match-run.along
  along_so_far = elim c.match-run.branch [
    | in-InRegisters+in_ok-go_on+in-Outside+in_ok-runner-in-Outside w ↦
        let first = rw w.in-Outside.is at w.in_ok-go_on.ensures.progress in
        rw (w.run-is, w.along-is, w.in-InRegisters.is, w.in_ok-runner-in-Outside.ensures.steps) first.5
    | in_default w ↦ rw (w.run-is, w.along-is) (g.met.A.Course.stays _ _ _)
  ]

  saved_so_far : StandsSaved c.args.machine.now c.args.limits.now c.args.run.now (g.T.Tape.view c.args.pair.now.saved)
      → StandsSaved c.args.machine.now c.args.limits.now c.match-run.run (g.T.Tape.view c.match-run.pair.saved)
  saved_so_far before = elim c.match-run.branch [
    | in-InRegisters+in_ok-go_on+in-Outside+in_ok-runner-in-Outside w ↦
        let known = (rw w.in-InRegisters.is at c.requires.run).earlier in
        rw (w.run-is, w.pair-is) (subst (Stands c.args.machine.now w.runner-saved.result)
        (sym (w.in_ok-runner-in-Outside.ensures.saved known)) (w.runner-saved.ensures.stands known))
    | in_default w ↦ rw (w.run-is, w.pair-is) before
  ]

pub go_on-requires-2-clause-under_way : goal.go_on-requires-2-clause-under_way
go_on-requires-2-clause-under_way g c =
    rw c.in-OnTape.is at (on_tape g (goal.at.go_on-requires-2-clause-under_way g c).In-OnTape)

pub returns-in-There-2-clause-runs : goal.returns-in-There-2-clause-runs
returns-in-There-2-clause-runs g c =
    let progress = rw c.in-There-2.is at c.in_ok-go_on-2.ensures.progress in
    let before = so_far g (goal.at.returns-in-There-2-clause-runs g c).In-OnTape in
    let along = along_so_far g (goal.at.returns-in-There-2-clause-runs g c).In-OnTape in (
      progress.0,
      progress.1,
      g.met.C.Course.goes_further _ _ _ _ _ _ _ (rw c.in-OnTape.is at before) progress.2,
      g.met.A.Course.goes_further _ _ _ _ _ _ _ (rw c.in-OnTape.is at along) progress.3,
    )

pub returns-in-There-2-clause-saved : goal.returns-in-There-2-clause-saved
returns-in-There-2-clause-saved g c before =
    rw c.in-OnTape.is at (saved_so_far g (goal.at.returns-in-There-2-clause-saved g c).In-OnTape before)

pub returns-in-Cut-2-clause-saved : goal.returns-in-Cut-2-clause-saved
returns-in-Cut-2-clause-saved g c before =
    rw c.in-OnTape.is at (saved_so_far g (goal.at.returns-in-Cut-2-clause-saved g c).In-OnTape before)

pub returns-in-There-clause-within : goal.returns-in-There-clause-within
returns-in-There-clause-within g c = c.go_on.ensures.within

pub returns-in-Cut-clause-within : goal.returns-in-Cut-clause-within
returns-in-Cut-clause-within g c = c.go_on.ensures.within

pub returns-in-There-2-clause-within : goal.returns-in-There-2-clause-within
returns-in-There-2-clause-within g c = c.go_on-2.ensures.within

pub returns-in-Cut-2-clause-within : goal.returns-in-Cut-2-clause-within
returns-in-Cut-2-clause-within g c = c.go_on-2.ensures.within
