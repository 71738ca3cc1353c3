use Rattle.std.proofs.Common.{◌≡◌, ◌↔◌, IsTrue, ◌∙◌, refl}
use Rattle.bb_sim.specs.Meter.{CountsRun, zero_meter}
use Rattle.bb_cert.specs.declared.verdict.Verdict.TheVariants.{Cycler}
use Rattle.bb_cert.specs.claims.Repeat.{Same}
use Rattle.bb_cert.specs.inside.Runs.{made_of}
use Rattle.bb_cert.proofs.checker_lemmas.ClaimChecks.{fits_inside, run_counts, whole_run}
use Rattle.bb_cert.proofs.checker.pairs.check_cycler.Given as given
use Rattle.bb_cert.proofs.checker.pairs.check_cycler.Goals as goal
use Rattle.bb_cert.proofs.checker.pairs.check_cycler.Goals.{After-is_as_saved}

module _ (g : given.Over) (c : After-is_as_saved g) where
  at_second : made_of c.run_to-2.new.run ≡ c.args.limits.now.steps
  at_second = (rw (c.in-None-2.is, c.steps-second.ensures.value) at c.in_ok-answer-2.ensures.runs).1

  at_first : made_of c.save.new.self ≡ c.args.first
  at_first = c.save.ensures.made ∙ (rw c.in-None.is at c.in_ok-answer.ensures.runs).1

  replayed : CountsRun c.args.machine.now c.args.limits.now zero_meter c.count.new.meter
  replayed = whole_run c.args.limits.now c.count.ensures.inside at_second c.count.ensures.counts

  -- what is followed went along both parts
  along : g.A.Course.goes_on c.args.machine.now 0 c.args.limits.now.steps c.args.along.now
      c.run_to-2.new.along
  along =
      let first = rw (c.begin.ensures.made, c.in-None.is) at c.in_ok-answer.ensures.runs in
      let second =
      rw (c.in-None-2.is, at_first, c.steps-second.ensures.value) at c.in_ok-answer-2.ensures.runs in
      g.met.A.Course.goes_further _ _ _ _ _ _ _ first.3 second.3

  -- the first configuration is the saved one, on the last tape too
  again : IsTrue c.is_as_saved.result ↔ Same c.args.machine.now c.args.first c.args.limits.now.steps
  again =
      let first = rw c.in-None.is at c.in_ok-answer.ensures.runs in
      let saved = c.in_ok-save.ensures.run _ _ _ first.0 in
      let since = c.in_ok-answer-2.ensures.saved_steps ∙ c.in_ok-save.ensures.at ∙ first.1 in
      rw (since, at_second) at
      (c.is_as_saved.ensures _ _ c.count.ensures.stands (c.in_ok-answer-2.ensures.saved saved.1))

pub returns-then-is_as_saved-clause-checks : goal.returns-then-is_as_saved-clause-checks
returns-then-is_as_saved-clause-checks g c =
    let at = (goal.at.returns-then-is_as_saved-clause-checks g c).After-is_as_saved in (
      fits_inside c.args.limits.now c.count.ensures.inside (at_second g at),
      (c.requires.order, (again g at).0 c.if-is_as_saved.true),
    )

pub returns-clause-checks : goal.returns-clause-checks
returns-clause-checks g c =
    let at = (goal.at.returns-clause-checks g c).After-is_as_saved in (
      fits_inside c.args.limits.now c.count.ensures.inside (at_second g at),
      λ claim.
          let yes = (again g at).1 claim.1 in
          let no = c.if-is_as_saved.false in
          cc,
    )

pub returns-then-is_as_saved-clause-counted : goal.returns-then-is_as_saved-clause-counted
returns-then-is_as_saved-clause-counted g c =
    let at = (goal.at.returns-then-is_as_saved-clause-counted g c).After-is_as_saved in
    λ ok. run_counts c.args.machine.now (Cycler c.args.first c.args.limits.now.steps) _ refl refl
    (rw (at_second g at) at c.count.ensures.counts)

pub returns-then-is_as_saved-clause-replayed : goal.returns-then-is_as_saved-clause-replayed
returns-then-is_as_saved-clause-replayed g c =
    replayed g (goal.at.returns-then-is_as_saved-clause-replayed g c).After-is_as_saved

pub returns-then-is_as_saved-clause-along : goal.returns-then-is_as_saved-clause-along
returns-then-is_as_saved-clause-along g c =
    let at = (goal.at.returns-then-is_as_saved-clause-along g c).After-is_as_saved in
    λ ok. along g at

pub returns-clause-replayed : goal.returns-clause-replayed
returns-clause-replayed g c = replayed g (goal.at.returns-clause-replayed g c).After-is_as_saved
