-- Why the first bytes of a line, one more than the longest text has, decide the reply to it: laws that the
-- engine asks for. They are proofs; they stand here, since a trait's law may cite nothing of `proofs/`.
use Rattle.std.proofs.Common.{◌≡◌, ℕ, ◌+◌, List, take, inl, inr, subst, arith}
use Rattle.bb_machine.specs.declared.machine.TheConstants.{LINE}
use Rattle.bb_machine.specs.Laws.{PrefixIsEnough}
use Rattle.bb_machine.specs.Limits.{Bounds}
use Rattle.bb_machine.specs.Machine.{Table, IsMachineLine, IsTextOf}
use Rattle.bb_machine.proofs.Facts.{prefix_enough}
use Rattle.bb_sim.specs.declared.meter.Meter.{Meter}
use Rattle.bb_machine.specs.declared.plan.Plan.{Plan}
use Rattle.bb_run.specs.declared.summary.Summary.{Summary}
use Rattle.bb_run.specs.Reply.{IsReply}
use Rattle.bb_run.specs.Seen.{SawBy}

enough : (line : List ℕ) → PrefixIsEnough line (LINE + 1)
enough line = prefix_enough line (LINE + 1) (omega arith)

text_of_prefix : (line : List ℕ) (table : Table) → IsTextOf table (take (LINE + 1) line) → IsTextOf table line
text_of_prefix line table of =
    record { machine = of.machine; is_text = ((enough line).same_text table of.machine).0 of.is_text }

no_machine_of_prefix : (line : List ℕ) → (IsMachineLine (take (LINE + 1) line) → ⊥) → IsMachineLine line → ⊥
no_machine_of_prefix line never (table, of) = never (
  table,
  record { machine = of.machine; is_text = ((enough line).same_text table of.machine).1 of.is_text },
)

-- a reply stays one where limits and plan do
pub reply_kept : (old new : Bounds) (old_plan new_plan : Plan) (line reply : List ℕ) → old ≡ new
    → old_plan ≡ new_plan → IsReply old old_plan line reply → IsReply new new_plan line reply
reply_kept old new old_plan new_plan line reply bounds plan is =
    subst (λ (p : Plan). IsReply new p line reply) plan
    (subst (λ (l : Bounds). IsReply l old_plan line reply) bounds is)

-- a reply to the kept bytes of a line is one to the line
pub reply_of_kept : (bounds : Bounds) (plan : Plan) (line reply : List ℕ)
    → IsReply bounds plan (take (LINE + 1) line) reply → IsReply bounds plan line reply
reply_of_kept bounds plan line reply (inl v) = inl (record {
  table = v.table;
  of = text_of_prefix line v.table v.of;
  verdict = v.verdict;
  is_verdict = v.is_verdict;
  is_reply = v.is_reply;
})
reply_of_kept bounds plan line reply (inr r) = inr (record {
  no_machine = no_machine_of_prefix line r.no_machine;
  column = r.column;
  is_column = ((enough line).same_column r.column).0 r.is_column;
  is_reply = r.is_reply;
})

-- what the kept bytes of a line do to the summary, the line does, and it costs the same
pub saw_of_kept : (Counts : Table → Meter → Type 0) (line : List ℕ) (old new : Summary) (cost : ℕ)
    → SawBy Counts old (take (LINE + 1) line) new cost → SawBy Counts old line new cost
saw_of_kept Counts line old new cost (inl m) = inl (record {
  table = m.table;
  of = text_of_prefix line m.table m.of;
  meter = m.meter;
  counts = m.counts;
  clean = m.clean;
  peak = m.peak;
  is_cost = m.is_cost;
})
saw_of_kept Counts line old new cost (inr r) = inr (record {
  no_machine = no_machine_of_prefix line r.no_machine;
  clean = r.clean;
  peak = r.peak;
  no_cost = r.no_cost;
})
