-- Why the first bytes of a line, one more than the buffer of a verdict line has, decide what it does: a law
-- that the engine asks for. It is a proof; it stands here, since a trait's law may cite nothing of `proofs/`.
use Rattle.std.proofs.Common.{ℕ, ◌+◌, ◌<◌, ◌≤◌, ◌^◌, List, ◌∷◌, ◌++◌, take, length, codes, decimal, inl, inr}
use Rattle.std.proofs.Common.{Option, Some, None, ap, subst, arith, length-append}
use Rattle.std.proofs.lemmas.Bool.{cases_lt}
use Rattle.std.proofs.lemmas.Fmt.{length-decimal-le}
use Rattle.std.proofs.lemmas.List.{take_all, length-take}
use Rattle.bb_machine.specs.declared.machine.TheConstants.{MAX_STATES, MAX_SYMBOLS}
use Rattle.bb_machine.specs.Machine.{Table, text}
use Rattle.bb_machine.proofs.Facts.{text_short}
use Rattle.bb_cert.specs.declared.verdict.line.TheConstants.{LINE_BUFFER}
use Rattle.bb_cert.specs.declared.verdict.reader.Line.TheVariants as said
use Rattle.bb_cert.proofs.Facts.{length-line}
use Rattle.laws_of_verdicts.specs.Closed.{VerdictLine}
use Rattle.bb_cover.specs.declared.content.Content.{Content}
use Rattle.bb_cover.specs.declared.content.Content.TheVariants.{Claim, Shard}
use Rattle.bb_cover.specs.declared.content.ShardCounts.{ShardCounts}
use Rattle.bb_cover.specs.declared.task.Form.{Form}
use Rattle.bb_cover.specs.declared.task.Task.{Task}
use Rattle.bb_cover.specs.Content.{IsItemLine, IsShardLine, Item, shard_text}
use Rattle.bb_cover.specs.declared.found.Stop.{Stop}
use Rattle.bb_cover.specs.declared.found.Why.{Why}
use Rattle.bb_cover.specs.declared.found.Why.TheVariants.{Unread, NotNext, Refused, TooMany}
use Rattle.bb_cover.specs.declared.list.CoverProgress.{CoverProgress}
use Rattle.bb_cover.specs.declared.list.Size.{Size}
use Rattle.bb_cover.specs.CoverProgress.{Applies, IsWrong, TookBy}

-- no line is longer than the buffer of a verdict line

number : (n : ℕ) → n < 2 ^ 64 → length (decimal n) ≤ 20
number n h = length-decimal-le 20 n (omega arith) (omega (arith, h)) h

shard_short : (table : Table) (shard : ShardCounts) (bytes : List ℕ) → IsShardLine table shard bytes
    → length bytes ≤ LINE_BUFFER
shard_short table shard bytes is =
    let machine = text_short MAX_STATES MAX_SYMBOLS table is.machine in
    let lines = number shard.lines is.numbers.0 in
    let few = is.numbers.0 in
    let undecided_few = is.numbers.1.undecided in
    let wide_few = is.numbers.1.wide in
    let undecided = number shard.undecided (omega (arith, few, undecided_few)) in
    let wide = number shard.wide (omega (arith, few, undecided_few, wide_few)) in
    let whole = length-append (text table) (32 ∷ shard_text shard is.digest) in
    let words = length-append (codes "below ")
    (decimal shard.lines ++ (32 ∷ (decimal shard.undecided
    ++ (32 ∷ (decimal shard.wide ++ (32 ∷ is.digest)))))) in
    let first = length-append (decimal shard.lines)
    (32 ∷ (decimal shard.undecided ++ (32 ∷ (decimal shard.wide ++ (32 ∷ is.digest))))) in
    let second = length-append (decimal shard.undecided) (32 ∷ (decimal shard.wide ++ (32 ∷ is.digest))) in
    let third = length-append (decimal shard.wide) (32 ∷ is.digest) in
    let digest = is.is_digest.0 in
    let same = ap length is.whole in
    omega arith

item_short : (form : Form) (bytes : List ℕ) (item : Item) → IsItemLine form item bytes
    → length bytes ≤ LINE_BUFFER
item_short form bytes item is = by item.content is
  where
    by : (content : Content) → IsItemLine form (record { table = item.table; content = content }) bytes
        → length bytes ≤ LINE_BUFFER
    by (Claim verdict) p = let short = length-line (said.Claim item.table verdict) bytes p in
        omega (arith, short)
    by (Shard shard) p = shard_short item.table shard bytes p.1

module _ (line : List ℕ) (form : Form) where
  -- either all bytes of a line are kept, or neither they nor the line are that of an item
  record IsTooLong : Type 0 where
    kept : (item : Item) → IsItemLine form item (take (LINE_BUFFER + 1) line) → ⊥
    whole : (item : Item) → IsItemLine form item line → ⊥

  -- so what holds of the kept bytes holds of the line, if it does of a line that is none
  of_kept : (P : List ℕ → Type 0) → P (take (LINE_BUFFER + 1) line) → (IsTooLong → P line) → P line
  of_kept P holds by = elim (cases_lt LINE_BUFFER (length line)) [
    | inl long ↦ by (record {
      kept = λ item of.
          let few = length-take (LINE_BUFFER + 1) line in
          let short = item_short form (take (LINE_BUFFER + 1) line) item of in
          omega (arith, few, long, short);
      whole = λ item of. let short = item_short form line item of in omega (arith, long, short);
    })
    | inr fits ↦ subst P (take_all (LINE_BUFFER + 1) line (omega (arith, fits))) holds
  ]

module _ (task : Task) (line : List ℕ) where
  abbrev kept_bytes : List ℕ
  kept_bytes = take (LINE_BUFFER + 1) line

  abbrev claim : VerdictLine → Item
  claim of = record { table = of.table; content = Claim of.verdict }

  -- a reason applies to the line where it does to the kept bytes, and the other way round

  applies_to_line : (past : ℕ) (size : Option Size) (left : List Table) (why : Why) → IsTooLong line task.form
      → Applies task past size left kept_bytes why → Applies task past size left line why
  applies_to_line past size left Unread long applies = λ item of. long.whole item of
  applies_to_line past size left NotNext long applies = absurd (long.kept applies.0 applies.1)
  applies_to_line past size left TooMany long applies = absurd (long.kept applies.0 applies.1)
  applies_to_line past size left (Refused given) long applies = absurd (long.kept (claim applies.0) applies.1)
  applies_to_line past size left why long applies = applies

  applies_to_kept : (past : ℕ) (size : Option Size) (left : List Table) (why : Why) → IsTooLong line task.form
      → Applies task past size left line why → Applies task past size left kept_bytes why
  applies_to_kept past size left Unread long applies = λ item of. long.kept item of
  applies_to_kept past size left NotNext long applies = absurd (long.whole applies.0 applies.1)
  applies_to_kept past size left TooMany long applies = absurd (long.whole applies.0 applies.1)
  applies_to_kept past size left (Refused given) long applies = absurd (long.whole (claim applies.0) applies.1)
  applies_to_kept past size left why long applies = applies

  wrong_of_long : (old : CoverProgress) (why : Why) → IsTooLong line task.form
      → IsWrong task old.counts.lines old.size old.walk kept_bytes why
      → IsWrong task old.counts.lines old.size old.walk line why
  wrong_of_long old why long wrong = record {
    applies = applies_to_line old.counts.lines old.size old.walk why long wrong.applies;
    first = λ other applies. wrong.first other (applies_to_kept old.counts.lines old.size old.walk other long applies);
  }

  took_of_long : (stop : Option Stop) (old new : CoverProgress) → IsTooLong line task.form
      → TookBy stop task old kept_bytes new → TookBy stop task old line new
  took_of_long (Some stop) old new long took = took
  took_of_long None old new long (inl visited) = absurd (long.kept visited.item visited.is_true.is_line)
  took_of_long None old new long (inr stopped) = inr (record {
    why = stopped.why;
    wrong = wrong_of_long old stopped.why long stopped.wrong;
    stop = stopped.stop;
    counts = stopped.counts;
  })

-- what the kept bytes of a line do, the line does
pub took_of_kept : (task : Task) (line : List ℕ) (old new : CoverProgress)
    → TookBy old.stop task old (take (LINE_BUFFER + 1) line) new → TookBy old.stop task old line new
took_of_kept task line old new took =
    of_kept line task.form (λ bytes. TookBy old.stop task old bytes new) took
    (λ long. took_of_long task line old.stop old new long took)
