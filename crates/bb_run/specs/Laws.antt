-- Laws of replies.
use Rattle.std.specs.Prelude.{◌≡◌, ℕ, ◌<◌, ◌≤◌, List, length}
use Rattle.bb_machine.specs.Limits.{Bounds}
use Rattle.bb_machine.specs.Machine.{Table}
use Rattle.bb_machine.specs.declared.plan.Plan.{Plan}
use Rattle.bb_sim.specs.declared.meter.Meter.{Meter}
use Rattle.bb_sim.specs.Meter.{zero_meter}
use Rattle.bb_cert.specs.checker.Answer.{IsSettled}
use Rattle.bb_cert.specs.checker.ClaimMeter.{CountsClaim, IsWithinClaim}
use Rattle.bb_cert.specs.declared.verdict.reader.Line.TheVariants.{Claim}
use Rattle.bb_cert.specs.declared.verdict.Verdict.{Verdict}
use Rattle.bb_cert.specs.verdict.Line.{IsLineOf}
use Rattle.bb_cert.specs.declared.verdict.line.TheConstants.{LINE_BUFFER}
use Rattle.bb_run.specs.BorneOut.{VerdictsAreBorneOut}
use Rattle.bb_run.specs.CheckReply.{IsCheckReply, unread_text}
use Rattle.bb_run.specs.Cost.{IsLineCost}
use Rattle.bb_run.specs.declared.cost.LineCost.{LineCost}
use Rattle.bb_run.specs.declared.reply_validation.ReplyKind.{ReplyKind}
use Rattle.bb_run.specs.Validation.{HasForm, IsOfKind}
use Rattle.bb_run.specs.Reply.{IsReply}

-- two replies to one line, within the same bounds and by the same plan, are the same
abbrev pub ReplyIsUnique : Type 0
ReplyIsUnique = (bounds : Bounds) (plan : Plan) (line a b : List ℕ)
    → IsReply bounds plan line a → IsReply bounds plan line b → a ≡ b

-- two replies of the checker to one line, within the same bounds, are the same
abbrev pub CheckReplyIsUnique : Type 0
CheckReplyIsUnique = (bounds : Bounds) (line a b : List ℕ)
    → IsCheckReply bounds line a → IsCheckReply bounds line b → a ≡ b

-- a line with no room in the buffer of a verdict line is unread
abbrev pub LongLinesAreUnread : Type 0
LongLinesAreUnread = (bounds : Bounds) (line reply : List ℕ) → LINE_BUFFER < length line
    → IsCheckReply bounds line reply → reply ≡ unread_text

-- the verdicts are borne out, for any bounds and plan
abbrev pub AllVerdictsAreBorneOut : Type 0
AllVerdictsAreBorneOut = (bounds : Bounds) (plan : Plan) → VerdictsAreBorneOut bounds plan

-- a reply to a line is of one kind
abbrev pub ReplyHasOneKind : Type 0
ReplyHasOneKind = (line reply : List ℕ) (a b : ReplyKind) → IsOfKind a line reply → IsOfKind b line reply
    → a ≡ b

-- each reply of deciding a list has the form of a reply to its line, for any bounds and plan
abbrev pub RepliesHaveForm : Type 0
RepliesHaveForm = (bounds : Bounds) (plan : Plan) (line reply : List ℕ) → IsReply bounds plan line reply
    → HasForm line reply

-- checking the claim of a line makes no more steps, and enters no more nodes, than the cost of the line, by
-- two clauses of the checker: it counts no more than the claim names, and nothing if it makes no run
abbrev pub ChecksCostNoMore : Type 0
ChecksCostNoMore = (bounds : Bounds) (line : List ℕ) (table : Table) (verdict : Verdict) (meter : Meter)
    (cost : LineCost) → IsLineOf (Claim table verdict) line → IsWithinClaim bounds verdict meter
    → (IsSettled bounds verdict → meter ≡ zero_meter) → IsLineCost bounds line cost
    → (meter.steps ≤ cost.steps) × (meter.nodes ≤ cost.nodes)

-- where it confirms a claim, it makes just as many, since it counts what the claim names
abbrev pub ConfirmedClaimsCostThat : Type 0
ConfirmedClaimsCostThat = (bounds : Bounds) (line : List ℕ) (table : Table) (verdict : Verdict)
    (meter : Meter) (cost : LineCost) → IsLineOf (Claim table verdict) line
    → (IsSettled bounds verdict → ⊥) → CountsClaim verdict meter → IsLineCost bounds line cost
    → (meter.steps ≡ cost.steps) × (meter.nodes ≡ cost.nodes)
