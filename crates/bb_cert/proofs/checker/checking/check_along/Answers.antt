use Rattle.std.proofs.Common.{◌≡◌, ap, subst}
use Rattle.bb_sim.specs.declared.meter.Meter.{Meter}
use Rattle.bb_sim.specs.Run.{Never}
use Rattle.bb_cert.specs.declared.checker.answer.Answer.{Answer}
use Rattle.bb_cert.specs.declared.checker.answer.Answer.TheVariants as answer
use Rattle.bb_cert.specs.checker.Answer.{IsAnswer}
use Rattle.bb_cert.specs.inside.Checks.{Checks}
use Rattle.bb_cert.specs.claims.Claim.{SaysNever}
use Rattle.bb_cert.proofs.checker_lemmas.AnswerRules.{checked_answer, settled_answer, where_ok}
use Rattle.bb_cert.proofs.checker_lemmas.ClaimChecks.{no_window, settled_counts, settled_so}
use Rattle.bb_cert.proofs.claim_lemmas.Claims.{claims_never_halt}
use Rattle.bb_cert.proofs.checker.checking.check_along.Goals as goal

pub returns-in-Some-clause-answer : goal.returns-in-Some-clause-answer
returns-in-Some-clause-answer g c =
    let settled = rw c.in-Some.is at c.settle.ensures in
    settled_answer c.args.machine.now c.args.limits.now c.args.verdict.now c.in-Some.answer settled

pub returns-in-Some-clause-window : goal.returns-in-Some-clause-window
returns-in-Some-clause-window g c =
    let settled = rw c.in-Some.is at c.settle.ensures in
    no_window c.args.machine.now c.args.limits.now c.args.verdict.now
    (λ made. made.0 (settled_so c.args.limits.now c.args.verdict.now c.in-Some.answer settled))
    (ap (λ (m : Meter). m.most_cells) c.new.ensures)

pub returns-in-Some-clause-cost : goal.returns-in-Some-clause-cost
returns-in-Some-clause-cost g c =
    let settled = rw c.in-Some.is at c.settle.ensures in
    settled_counts c.args.machine.now c.args.limits.now c.args.verdict.now _
    (settled_so c.args.limits.now c.args.verdict.now c.in-Some.answer settled) c.new.ensures

pub returns-in-None-clause-answer : goal.returns-in-None-clause-answer
returns-in-None-clause-answer g c =
    let unsettled = rw c.in-None.is at c.settle.ensures in
    where_ok (Checks c.args.machine.now c.args.limits.now c.args.verdict.now)
    (IsAnswer c.args.machine.now c.args.limits.now c.args.verdict.now) _
    (checked_answer c.args.machine.now c.args.limits.now c.args.verdict.now unsettled)
    c.check_claim.ensures.checks

pub returns-in-None-clause-never : goal.returns-in-None-clause-never
returns-in-None-clause-never g c =
    where_ok (Checks c.args.machine.now c.args.limits.now c.args.verdict.now)
    (λ (given : Answer). given ≡ answer.Ok → SaysNever c.args.verdict.now → Never c.args.machine.now) _
    (λ given checks is says.
    let claim = subst (Checks c.args.machine.now c.args.limits.now c.args.verdict.now) is checks in
    claims_never_halt c.args.machine.now c.args.verdict.now c.show_machine.ensures.machine says claim.1)
    c.check_claim.ensures.checks
