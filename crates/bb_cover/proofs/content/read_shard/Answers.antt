use Rattle.std.proofs.Common.{Option, Some, None}
use Rattle.std.specs.Option.{IfNone, MatchOption}
use Rattle.bb_cover.specs.declared.content.ShardCounts.{ShardCounts}
use Rattle.bb_cover.proofs.ShardLines.{line_split}
use Rattle.bb_cover.proofs.content.read_shard.Goals as goal

-- without counts behind the machine there is no line of a shard
without : (found : Option ShardCounts) (N M : Type 0) (P : ShardCounts → Type 0) → MatchOption found N P
    → (N → M) → IfNone found M
without None N M P is by = by is
without (Some shard) N M P is by = tt

pub returns-in-Ok-clause-none : goal.returns-in-Ok-clause-none
returns-in-Ok-clause-none c = without c.read_counts.result _ _ _ c.read_counts.ensures (λ none table shard is.
    none shard is.digest is.numbers is.is_digest
    (line_split table shard c.args.line.now is c.in_ok-text.text.now c.in_ok-text.words.now
    c.in_ok-text.ensures.0 c.in_ok-text.ensures.1).1)

pub returns-in-Err-clause-none : goal.returns-in-Err-clause-none
returns-in-Err-clause-none c = λ table shard is.
    c.in-Err.ensures.none table is.machine
    (line_split table shard c.args.line.now is c.in_ok-text.text.now c.in_ok-text.words.now
    c.in_ok-text.ensures.0 c.in_ok-text.ensures.1).0
