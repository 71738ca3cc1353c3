-- Why the first bytes of a line, one more than the buffer of a verdict line has, decide the reply to it: laws
-- that the engine asks for. They are proofs; they stand here, since a trait's law may cite nothing of
-- `proofs/`.
use Rattle.std.proofs.Common.{◌≡◌, ℕ, ◌+◌, Bool, List, take, length, inl, inr, subst, arith}
use Rattle.std.proofs.lemmas.Bool.{cases_lt}
use Rattle.std.proofs.lemmas.List.{take_all, length-take}
use Rattle.bb_machine.specs.Limits.{Bounds}
use Rattle.bb_cert.specs.declared.verdict.line.TheConstants.{LINE_BUFFER}
use Rattle.bb_cert.specs.declared.verdict.reader.Line.{Line}
use Rattle.bb_cert.specs.declared.verdict.reader.Line.TheVariants.{Claim, Refusal}
use Rattle.bb_cert.specs.verdict.Line.{IsLineOf}
use Rattle.bb_run.specs.declared.summary.Summary.{Summary}
use Rattle.bb_run.specs.CheckKeptBytes.{long_line}
use Rattle.bb_recurrence.specs.RecurrenceReply.{IsRecurrenceReply}
use Rattle.bb_recurrence.specs.RecurrenceSeen.{RecurrenceSaw}

module _ (line : List ℕ) where
  -- either all bytes of a line are kept, or neither they nor the line are a verdict line
  record IsTooLong : Type 0 where
    kept : (said : Line) → IsLineOf said (take (LINE_BUFFER + 1) line) → ⊥
    whole : (said : Line) → IsLineOf said line → ⊥

  -- so a property of the kept bytes is one of the line, if it is one of each line that is no verdict line
  of_kept : (P : List ℕ → Type 0) → P (take (LINE_BUFFER + 1) line) → (IsTooLong → P line) → P line
  of_kept P holds by = elim (cases_lt LINE_BUFFER (length line)) [
    | inl long ↦ by (record {
      kept = long_line (take (LINE_BUFFER + 1) line) (omega (arith, length-take (LINE_BUFFER + 1) line));
      whole = long_line line long;
    })
    | inr fits ↦ subst P (take_all (LINE_BUFFER + 1) line (omega (arith, fits))) holds
  ]

  reply_of_long : (bounds : Bounds) (entries : Bool) (reply : List ℕ) → IsTooLong
      → IsRecurrenceReply bounds entries (take (LINE_BUFFER + 1) line) reply
      → IsRecurrenceReply bounds entries line reply
  reply_of_long bounds entries reply long (inl other) =
      absurd (long.kept (Claim other.table other.verdict) other.of)
  reply_of_long bounds entries reply long (inr (inl other)) =
      absurd (long.kept (Claim other.table other.verdict) other.of)
  reply_of_long bounds entries reply long (inr (inr (inl other))) = absurd (long.kept other.said other.of)
  reply_of_long bounds entries reply long (inr (inr (inr unread))) =
      inr (inr (inr (record { no_line = long.whole; is_reply = unread.is_reply })))

  saw_of_long : (bounds : Bounds) (old new : Summary) (cost : ℕ) → IsTooLong
      → RecurrenceSaw bounds old (take (LINE_BUFFER + 1) line) new cost
      → RecurrenceSaw bounds old line new cost
  saw_of_long bounds old new cost long (inl saw) = absurd (long.kept (Claim saw.table saw.verdict) saw.of)
  saw_of_long bounds old new cost long (inr (inl saw)) = absurd (long.kept (Refusal saw.column) saw.of)
  saw_of_long bounds old new cost long (inr (inr saw)) = inr (inr (record {
    no_line = long.whole;
    clean = saw.clean;
    peak = saw.peak;
    no_cost = saw.no_cost;
  }))

-- a reply stays one where the limits and the choice of entries do
pub recurrence_reply_kept : (old new : Bounds) (entries entries' : Bool) (line reply : List ℕ) → old ≡ new
    → entries ≡ entries' → IsRecurrenceReply old entries line reply
    → IsRecurrenceReply new entries' line reply
recurrence_reply_kept old new entries entries' line reply same same_too is =
    subst (λ (b : Bool). IsRecurrenceReply new b line reply) same_too
    (subst (λ (b : Bounds). IsRecurrenceReply b entries line reply) same is)

-- a reply to the kept bytes of a line is one to the line
pub recurrence_reply_of_kept : (bounds : Bounds) (entries : Bool) (line reply : List ℕ)
    → IsRecurrenceReply bounds entries (take (LINE_BUFFER + 1) line) reply
    → IsRecurrenceReply bounds entries line reply
recurrence_reply_of_kept bounds entries line reply is =
    of_kept line (λ bytes. IsRecurrenceReply bounds entries bytes reply) is
    (λ long. reply_of_long line bounds entries reply long is)

-- the kept bytes of a line have the effect of the line on the summary, at the same cost
pub recurrence_saw_of_kept : (bounds : Bounds) (line : List ℕ) (old new : Summary) (cost : ℕ)
    → RecurrenceSaw bounds old (take (LINE_BUFFER + 1) line) new cost → RecurrenceSaw bounds old line new cost
recurrence_saw_of_kept bounds line old new cost saw =
    of_kept line (λ bytes. RecurrenceSaw bounds old bytes new cost) saw
    (λ long. saw_of_long line bounds old new cost long saw)
