use Rattle.std.proofs.Common.{sym, ◌∙◌}
use Rattle.std.proofs.lemmas.Bool.{false≢true}
use Rattle.bb_run.proofs.Validations.{no_form, other_column, other_text}
use Rattle.bb_run.proofs.reply_validation.kind_of_reply.Goals as goal

pub returns-in_err-verdict : goal.returns-in_err-verdict
returns-in_err-verdict c = rw c.from_residual.ensures
    (no_form c.args.line.now c.args.reply.now c.in_err-verdict.ensures.none)

pub returns-then-not-is_text : goal.returns-then-not-is_text
returns-then-not-is_text c =
    let said = rw c.in-Claim.is at c.in_ok-verdict.ensures.found in
    other_text c.args.line.now c.args.reply.now c.read_line_in_place.new.machine c.in-Claim.verdict said
    (λ is. false≢true (sym c.if-not-is_text.true ∙ c.is_text.ensures.1 is))

pub returns-then-not-is_refused_at : goal.returns-then-not-is_refused_at
returns-then-not-is_refused_at c =
    let said = rw c.in-Refusal.is at c.in_ok-verdict.ensures.found in
    other_column c.args.line.now c.args.reply.now c.in-Refusal.column said
    (λ is. false≢true (sym c.if-not-is_refused_at.true ∙ c.is_refused_at.ensures.1 is))
