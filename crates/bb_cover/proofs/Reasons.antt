-- Which reason to stop at a line comes first.
use Rattle.std.proofs.Common.{◌≡◌, ◌≢◌, ℕ, ◌≤◌, List, [], Option, None, subst, arith}
use Rattle.bb_machine.specs.Machine.{Table}
use Rattle.bb_cert.specs.declared.checker.answer.Answer.{Answer}
use Rattle.bb_cert.specs.declared.verdict.Verdict.{Verdict}
use Rattle.bb_cert.specs.declared.verdict.reader.Line.TheVariants as said
use Rattle.bb_cert.specs.verdict.Line.{IsLineOf}
use Rattle.bb_cover.specs.declared.found.Why.{Why}
use Rattle.bb_cover.specs.declared.found.Why.TheVariants.{Unread, NotNext, Refused, TooMany, TooSoon, Beyond}
use Rattle.bb_cover.specs.declared.list.Size.{Size}
use Rattle.bb_cover.specs.Claims.{IsFineContent, IsRefusedClaim}
use Rattle.bb_cover.specs.CoverProgress.{Applies, HasRoom, IsAsked, IsWrong, rank}
use Rattle.bb_cover.specs.declared.content.Content.TheVariants.{Claim}
use Rattle.bb_cover.specs.declared.task.Task.{Task}
use Rattle.bb_cover.specs.Content.{IsItemLine, Item}
use Rattle.bb_cover.proofs.Judging.{fine_or_not}
use Rattle.bb_cover.proofs.ShardLines.{one_item}

module _ (task : Task) (past : ℕ) (size : Option Size) (left : List Table) (bytes : List ℕ) where
  pub beyond_first : (size ≢ None) × (left ≡ []) → IsWrong task past size left bytes Beyond
  beyond_first done = record { applies = done; first = first }
    where
      first : (other : Why) → Applies task past size left bytes other → rank Beyond ≤ rank other
      first Beyond applies = omega arith
      first Unread applies = omega arith
      first NotNext applies = omega arith
      first (Refused given) applies = omega arith
      first TooMany applies = omega arith
      first TooSoon applies = omega arith

  pub unread_first : ((size ≢ None) × (left ≡ []) → ⊥)
      → ((item : Item) → IsItemLine task.form item bytes → ⊥)
      → IsWrong task past size left bytes Unread
  unread_first not_done unread = record { applies = unread; first = first }
    where
      first : (other : Why) → Applies task past size left bytes other → rank Unread ≤ rank other
      first Beyond applies = absurd (not_done applies)
      first Unread applies = omega arith
      first NotNext applies = omega arith
      first (Refused given) applies = omega arith
      first TooMany applies = omega arith
      first TooSoon applies = omega arith

  module _ (not_done : (size ≢ None) × (left ≡ []) → ⊥) (item : Item) (of : IsItemLine task.form item bytes) where
    pub not_next_first : ((rest : List Table) → IsAsked task.below size left item.table rest → ⊥)
        → IsWrong task past size left bytes NotNext
    not_next_first not_asked = record { applies = (item, of, not_asked); first = first }
      where
        first : (other : Why) → Applies task past size left bytes other → rank NotNext ≤ rank other
        first Beyond applies = absurd (not_done applies)
        first Unread applies = absurd (applies item of)
        first NotNext applies = omega arith
        first (Refused given) applies = omega arith
        first TooMany applies = omega arith
        first TooSoon applies = omega arith

    pub too_many_first : (rest : List Table) → IsAsked task.below size left item.table rest
        → IsFineContent task.limits item.table item.content → (HasRoom past item.content → ⊥)
        → IsWrong task past size left bytes TooMany
    too_many_first rest asked fine full = record { applies = (item, of, full); first = first }
      where
        first : (other : Why) → Applies task past size left bytes other → rank TooMany ≤ rank other
        first Beyond applies = absurd (not_done applies)
        first Unread applies = absurd (applies item of)
        first NotNext applies =
            let same = one_item task.form bytes item applies.0 of applies.1 in
            absurd (applies.2 rest
            (subst (λ (i : Item). IsAsked task.below size left i.table rest) same asked))
        first (Refused given) applies =
            let line = applies.0 in
            let same = one_item task.form bytes item
            (record { table = line.table; content = Claim line.verdict }) of applies.1 in
            absurd (fine_or_not task.limits line.table line.verdict
            (subst (λ (i : Item). IsFineContent task.limits i.table i.content) same fine) given
            applies.2.is_answer applies.2.not_fine)
        first TooMany applies = omega arith
        first TooSoon applies = omega arith

  module _ (not_done : (size ≢ None) × (left ≡ []) → ⊥) (table : Table) (verdict : Verdict)
      (of : IsLineOf (said.Claim table verdict) bytes) where
    pub refused_first : (rest : List Table) → IsAsked task.below size left table rest → (given : Answer)
        → IsRefusedClaim task.limits table verdict given
        → IsWrong task past size left bytes (Refused given)
    refused_first rest asked given refused =
        record { applies = (record { table = table; verdict = verdict }, of, refused); first = first }
      where
        item : Item
        item = record { table = table; content = Claim verdict }

        first : (other : Why) → Applies task past size left bytes other → rank (Refused given) ≤ rank other
        first Beyond applies = absurd (not_done applies)
        first Unread applies = absurd (applies item of)
        first NotNext applies =
            let same = one_item task.form bytes item applies.0 of applies.1 in
            absurd (applies.2 rest
            (subst (λ (i : Item). IsAsked task.below size left i.table rest) same asked))
        first (Refused other) applies = omega arith
        first TooMany applies = omega arith
        first TooSoon applies = omega arith
