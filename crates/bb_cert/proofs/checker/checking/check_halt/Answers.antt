use Rattle.std.proofs.Common.{◌≡◌, refl}
use Rattle.bb_cert.specs.declared.checker.answer.Answer.TheVariants as answer
use Rattle.bb_cert.specs.declared.verdict.Verdict.TheVariants.{Halt}
use Rattle.bb_cert.proofs.checker_lemmas.ClaimChecks.{halt_counts, halt_elsewhere, run_counts, runs_on}
use Rattle.bb_cert.proofs.checker.checking.check_halt.Goals as goal

pub returns-then-made-steps-clause-checks : goal.returns-then-made-steps-clause-checks
returns-then-made-steps-clause-checks g c =
    let outcome = rw (c.in-Halt.is, c.with_steps-limits.ensures) at c.in_ok-made.ensures.outcome in
    halt_elsewhere _ c.args.limits.now _ _ _ _ outcome c.if-made-steps.true

pub returns-else-found-score-clause-counted : goal.returns-else-found-score-clause-counted
returns-else-found-score-clause-counted g c =
    let outcome = rw (c.in-Halt.is, c.with_steps-limits.ensures) at c.in_ok-made.ensures.outcome in
    let counted = rw (c.with_steps-limits.ensures, c.requires.meter) at c.in_ok-made.ensures.counted in
    λ is. run_counts _ (Halt c.args.steps c.args.score) _ refl refl
    (halt_counts _ c.args.limits.now _ c.args.score _ _ _ outcome c.if-made-steps.false counted)

pub returns-in-NoSteps-clause-checks : goal.returns-in-NoSteps-clause-checks
returns-in-NoSteps-clause-checks g c =
    let outcome = rw (c.in-NoSteps.is, c.with_steps-limits.ensures) at c.in_ok-made.ensures.outcome in
    runs_on _ c.args.limits.now _ _ outcome

pub returns-in-NoCells-clause-checks : goal.returns-in-NoCells-clause-checks
returns-in-NoCells-clause-checks g c =
    let outcome = rw (c.in-NoCells.is, c.with_steps-limits.ensures) at c.in_ok-made.ensures.outcome in
    outcome.1

over_isnt_ok : answer.Over ≡ answer.Ok → ⊥
over_isnt_ok is = cc

pub returns-in-NoCells-clause-counted : goal.returns-in-NoCells-clause-counted
returns-in-NoCells-clause-counted g c = λ is. absurd (over_isnt_ok is)
