-- Why the first bytes of a line, one more than the buffer of a verdict line has, decide the answer to it:
-- laws that the engine asks for. They are proofs; they stand here, since a trait's law may cite nothing of
-- `proofs/`.
use Rattle.std.proofs.Common.{◌≡◌, ℕ, ◌+◌, ◌<◌, List, take, length, inl, inr, subst, arith}
use Rattle.std.proofs.lemmas.Bool.{cases_lt}
use Rattle.std.proofs.lemmas.List.{take_all, length-take}
use Rattle.bb_machine.specs.Limits.{Bounds}
use Rattle.bb_cert.specs.declared.verdict.line.TheConstants.{LINE_BUFFER}
use Rattle.bb_cert.specs.declared.verdict.reader.Line.{Line}
use Rattle.bb_cert.specs.declared.verdict.reader.Line.TheVariants.{Claim, Refusal}
use Rattle.bb_cert.specs.verdict.Line.{IsLineOf}
use Rattle.bb_cert.proofs.Facts.{length-line}
use Rattle.bb_run.specs.declared.summary.Summary.{Summary}
use Rattle.bb_run.specs.CheckReply.{IsCheckReply}
use Rattle.bb_run.specs.CheckSeen.{CheckSaw}

-- a longer line is no verdict line
pub long_line : (line : List ℕ) → LINE_BUFFER < length line → (said : Line) → IsLineOf said line → ⊥
long_line line long said of = let short = length-line said line of in absurd (omega (arith, long, short))

module _ (line : List ℕ) where
  -- either all bytes of a line are kept, or neither they nor the line are a verdict line
  record IsTooLong : Type 0 where
    kept : (said : Line) → IsLineOf said (take (LINE_BUFFER + 1) line) → ⊥
    whole : (said : Line) → IsLineOf said line → ⊥

  -- so what holds of the kept bytes holds of the line, if it does of a line that is none
  of_kept : (P : List ℕ → Type 0) → P (take (LINE_BUFFER + 1) line) → (IsTooLong → P line) → P line
  of_kept P holds by = elim (cases_lt LINE_BUFFER (length line)) [
    | inl long ↦ by (record {
      kept = long_line (take (LINE_BUFFER + 1) line) (omega (arith, length-take (LINE_BUFFER + 1) line));
      whole = long_line line long;
    })
    | inr fits ↦ subst P (take_all (LINE_BUFFER + 1) line (omega (arith, fits))) holds
  ]

  reply_of_long : (bounds : Bounds) (reply : List ℕ) → IsTooLong
      → IsCheckReply bounds (take (LINE_BUFFER + 1) line) reply → IsCheckReply bounds line reply
  reply_of_long bounds reply long (inl other) = absurd (long.kept (Claim other.table other.verdict) other.of)
  reply_of_long bounds reply long (inr (inl other)) = absurd (long.kept (Refusal other.column) other.of)
  reply_of_long bounds reply long (inr (inr unread)) =
      inr (inr (record { no_line = long.whole; is_reply = unread.is_reply }))

  saw_of_long : (bounds : Bounds) (old new : Summary) (cost : ℕ) → IsTooLong
      → CheckSaw bounds old (take (LINE_BUFFER + 1) line) new cost → CheckSaw bounds old line new cost
  saw_of_long bounds old new cost long (inl saw) = absurd (long.kept (Claim saw.table saw.verdict) saw.of)
  saw_of_long bounds old new cost long (inr (inl saw)) = absurd (long.kept (Refusal saw.column) saw.of)
  saw_of_long bounds old new cost long (inr (inr saw)) = inr (inr (record {
    no_line = long.whole;
    clean = saw.clean;
    peak = saw.peak;
    no_cost = saw.no_cost;
  }))

-- a reply stays one where the limits do
pub check_reply_kept : (old new : Bounds) (line reply : List ℕ) → old ≡ new
    → IsCheckReply old line reply → IsCheckReply new line reply
check_reply_kept old new line reply same is = subst (λ (b : Bounds). IsCheckReply b line reply) same is

-- a reply to the kept bytes of a line is one to the line
pub check_reply_of_kept : (bounds : Bounds) (line reply : List ℕ)
    → IsCheckReply bounds (take (LINE_BUFFER + 1) line) reply → IsCheckReply bounds line reply
check_reply_of_kept bounds line reply is = of_kept line (λ bytes. IsCheckReply bounds bytes reply) is
    (λ long. reply_of_long line bounds reply long is)

-- what the kept bytes of a line do to the summary, the line does, and it costs the same
pub check_saw_of_kept : (bounds : Bounds) (line : List ℕ) (old new : Summary) (cost : ℕ)
    → CheckSaw bounds old (take (LINE_BUFFER + 1) line) new cost → CheckSaw bounds old line new cost
check_saw_of_kept bounds line old new cost saw =
    of_kept line (λ bytes. CheckSaw bounds old bytes new cost) saw
    (λ long. saw_of_long line bounds old new cost long saw)
