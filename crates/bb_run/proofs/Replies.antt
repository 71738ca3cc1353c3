-- Why no line has two replies, and what stands behind it.
use Rattle.std.proofs.Common.{◌≡◌, ℕ, List, inl, inr, sym, subst, ap, ◌∙◌}
use Rattle.bb_machine.specs.Limits.{Bounds}
use Rattle.bb_machine.proofs.Facts.{column_unique, text_unique}
use Rattle.bb_cert.specs.verdict.Line.{line_text, refusal_text}
use Rattle.bb_machine.specs.declared.plan.Plan.{Plan}
use Rattle.bb_decide.specs.Verdict.{IsVerdict}
use Rattle.bb_decide.proofs.Facts.{steps_are_bounded, verdict_is_unique, verdicts_are_confirmed}
use Rattle.bb_decide.proofs.Facts.{verdicts_hold}
use Rattle.bb_cert.proofs.Facts.{claims_never_halt}
use Rattle.bb_run.specs.Laws.{AllVerdictsAreBorneOut, ReplyIsUnique}
use Rattle.bb_run.specs.Reply.{IsVerdictReply, IsRefusal}

module _ (bounds : Bounds) (plan : Plan) (line a b : List ℕ) where
  verdict_replies : IsVerdictReply bounds plan line a → IsVerdictReply bounds plan line b → a ≡ b
  verdict_replies first second =
      let table = text_unique first.table second.table first.of.machine second.of.machine (first.of.is_text
      ∙ sym second.of.is_text) in
      let verdict = verdict_is_unique second.table bounds plan first.verdict second.verdict
      (subst (λ t. IsVerdict t bounds plan first.verdict) table first.is_verdict) second.is_verdict in
      sym first.is_reply.2 ∙ ap (λ t. line_text t first.verdict) table
      ∙ ap (λ v. line_text second.table v) verdict
      ∙ second.is_reply.2

  refusals : IsRefusal line a → IsRefusal line b → a ≡ b
  refusals first second =
      let column = column_unique line first.column second.column first.is_column second.is_column in
      first.is_reply ∙ ap (λ c. refusal_text c) column ∙ sym second.is_reply

pub reply_is_unique : ReplyIsUnique
reply_is_unique bounds plan line a b (inl first) (inl second) = verdict_replies bounds plan line a b first
    second
reply_is_unique bounds plan line a b (inl first) (inr second) =
    absurd (second.no_machine (first.table, first.of))
reply_is_unique bounds plan line a b (inr first) (inl second) =
    absurd (first.no_machine (second.table, second.of))
reply_is_unique bounds plan line a b (inr first) (inr second) = refusals bounds plan line a b first second

pub verdicts_are_borne_out : AllVerdictsAreBorneOut
verdicts_are_borne_out bounds plan = record {
  verdicts = λ table verdict machine is. record {
    never = λ says. claims_never_halt table verdict machine says (verdicts_hold table bounds plan verdict is);
    confirmed = verdicts_are_confirmed table bounds plan verdict is;
  };
  steps = λ table n is. steps_are_bounded table bounds plan n is;
}
