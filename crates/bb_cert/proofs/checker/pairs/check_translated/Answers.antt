use Rattle.std.proofs.Common.{◌≡◌, Bool, true, false, sym, subst, ◌∙◌, refl}
use Rattle.bb_tape.specs.TapeView.{TapeView}
use Rattle.bb_cert.specs.inside.Runs.{IsViewAt, made_of, saved_steps}
use Rattle.bb_cert.specs.inside.RegisterChecks.{IsKeptUpTo, claim_of}
use Rattle.bb_cert.proofs.checker_lemmas.ClaimChecks.{fits_inside, run_counts, whole_run}
use Rattle.bb_cert.proofs.record_lemmas.KeptReplays.{followed_from_start, follows_on, kept_there, stands_there}
use Rattle.bb_cert.proofs.verdict_lemmas.Extents.{said_as_found}
use Rattle.bb_cert.proofs.checker.pairs.check_translated.Given as given
use Rattle.bb_cert.proofs.checker.pairs.check_translated.Goals as goal
use Rattle.bb_cert.proofs.checker.pairs.check_translated.Goals.{In-None-2}

pub runner-at_first-requires : goal.runner-at_first-requires
runner-at_first-requires g c = record {
  run = record {
    tape = g.T.Tape.view c.save.new.pair.run;
    meter = c.run_to.new.meter;
    is = (c.in_ok-save.ensures.run _ _ _ (rw c.in-None.is at c.in_ok-answer.ensures.runs).0).0;
  };
}

module _ (g : given.Over) (c : In-None-2 g) where
  at_first : made_of c.save.new.self ≡ c.args.claim.first
  at_first = c.save.ensures.made ∙ (rw c.in-None.is at c.in_ok-answer.ensures.runs).1

  at_second : made_of c.run_to-2.new.run ≡ c.args.limits.now.steps
  at_second = (rw (c.in-None-2.is, c.steps-second.ensures.value) at c.in_ok-answer-2.ensures.runs).1

  saved_there : saved_steps c.run_to-2.new.run ≡ c.args.claim.first
  saved_there = c.in_ok-answer-2.ensures.saved_steps ∙ c.in_ok-save.ensures.at
      ∙ (rw c.in-None.is at c.in_ok-answer.ensures.runs).1

  -- the record of the first step is kept
  kept : (view : TapeView) → IsViewAt c.args.machine.now c.args.claim.first view
      → IsKeptUpTo c.args.machine.now c.args.claim.side c.args.claim.first c.args.limits.now.steps
      c.run_to-2.new.course view
  kept view there =
      let start = c.runner-at_start.ensures in
      let from = followed_from_start start.stands (start.at ∙ c.begin.ensures.made) c.new.ensures in
      let first = rw c.in-None.is at c.in_ok-answer.ensures.runs in
      let second = rw (c.in-None-2.is, c.steps-second.ensures.value) at c.in_ok-answer-2.ensures.runs in
      let runner = rw at_first at c.runner-at_first.ensures in
      record {
        old = c.keep_if_record.new.self;
        kept = kept_there (follows_on (rw start.at at from) first.2) (stands_there runner there) runner.at
            c.keep_if_record.ensures;
        goes = rw at_first at second.2;
      }

  -- what is followed went along both parts
  along : g.A.Course.goes_on c.args.machine.now 0 c.args.limits.now.steps c.args.along.now
      c.run_to-2.new.along
  along =
      let first = rw (c.begin.ensures.made, c.in-None.is) at c.in_ok-answer.ensures.runs in
      let second = rw (c.in-None-2.is, at_first, c.steps-second.ensures.value) at
      c.in_ok-answer-2.ensures.runs in
      g.met.A.Course.goes_further _ _ _ _ _ _ _ first.3 second.3

  some_view : IsViewAt c.args.machine.now c.args.claim.first c.runner-at_first.ensures.view
  some_view =
      let runner = c.runner-at_first.ensures in
      record { runner = _; stands = runner.stands; at = runner.at ∙ at_first }

  same_side : c.run_to-2.new.course.records.side ≡ c.args.claim.side
  same_side =
      let is = kept _ some_view in
      is.goes.same.side ∙ is.kept.side_is

pub agreeing_extent-requires-clause-kept : goal.agreeing_extent-requires-clause-kept
agreeing_extent-requires-clause-kept g c =
    let at = (goal.at.agreeing_extent-requires-clause-kept g c).In-None-2 in
    λ view there. rw (saved_there g at, at_second g at) (subst (λ side. IsKeptUpTo c.args.machine.now side
    c.args.claim.first c.args.limits.now.steps c.run_to-2.new.course view) (sym (same_side g at))
    (kept g at view (rw (saved_there g at) at there)))

pub returns-in_default-clause-checks : goal.returns-in_default-clause-checks
returns-in_default-clause-checks g c =
    let at = (goal.at.returns-in_default-clause-checks g c).In-None-2 in
    let none =
    rw (c.in_default.is, same_side g at, saved_there g at, at_second g at) at c.agreeing_extent.ensures.agree in
    (fits_inside c.args.limits.now c.count.ensures.inside (at_second g at), λ claim. none claim.0)

apart : (claimed : Bool) → claimed ≡ true → claimed ≡ false → ⊥
apart claimed is isnt = cc

pub returns-then-not-matches_claimed-clause-checks : goal.returns-then-not-matches_claimed-clause-checks
returns-then-not-matches_claimed-clause-checks g c =
    let at = (goal.at.returns-then-not-matches_claimed-clause-checks g c).In-None-2 in
    let agree = rw (c.in-Some-agreeing_extent.is, same_side g at, saved_there g at, at_second g at) at
    c.agreeing_extent.ensures.agree in
    let said = said_as_found agree.1 c.args.claim.extent in (
      fits_inside c.args.limits.now c.count.ensures.inside (at_second g at),
      λ claim. apart _ (c.matches_claimed.ensures.1 (said.1 claim.1)) c.if-not-matches_claimed.true,
    )

pub returns-clause-checks : goal.returns-clause-checks
returns-clause-checks g c =
    let at = (goal.at.returns-clause-checks g c).In-None-2 in
    let agree = rw (c.in-Some-agreeing_extent.is, same_side g at, saved_there g at, at_second g at) at
    c.agreeing_extent.ensures.agree in
    let said = said_as_found agree.1 c.args.claim.extent in (
      fits_inside c.args.limits.now c.count.ensures.inside (at_second g at),
      (agree.0, said.0 (c.matches_claimed.ensures.0 c.if-not-matches_claimed.false)),
    )

pub returns-clause-along : goal.returns-clause-along
returns-clause-along g c =
    let at = (goal.at.returns-clause-along g c).In-None-2 in
    λ ok. along g at

pub returns-in_default-clause-replayed : goal.returns-in_default-clause-replayed
returns-in_default-clause-replayed g c =
    let at = (goal.at.returns-in_default-clause-replayed g c).In-None-2 in
    whole_run c.args.limits.now c.count.ensures.inside (at_second g at) c.count.ensures.counts

pub returns-then-not-matches_claimed-clause-replayed : goal.returns-then-not-matches_claimed-clause-replayed
returns-then-not-matches_claimed-clause-replayed g c =
    let at = (goal.at.returns-then-not-matches_claimed-clause-replayed g c).In-None-2 in
    whole_run c.args.limits.now c.count.ensures.inside (at_second g at) c.count.ensures.counts

pub returns-clause-replayed : goal.returns-clause-replayed
returns-clause-replayed g c =
    let at = (goal.at.returns-clause-replayed g c).In-None-2 in
    whole_run c.args.limits.now c.count.ensures.inside (at_second g at) c.count.ensures.counts

pub returns-clause-counted : goal.returns-clause-counted
returns-clause-counted g c =
    let at = (goal.at.returns-clause-counted g c).In-None-2 in
    λ ok. run_counts c.args.machine.now (claim_of c.args.limits.now c.args.claim) _ refl refl
    (rw (at_second g at) at c.count.ensures.counts)
