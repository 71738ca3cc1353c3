-- The lines of a list, and what each stands for in a walk.
use Rattle.std.specs.Prelude.{◌≡◌, ◌⊎◌, ℕ, ◌<◌, ◌≤◌, ◌^◌, List, [], ◌∷◌, ◌++◌, All, length, codes, decimal}
use Rattle.bb_machine.specs.Machine.{Table, IsMachine, text}
use Rattle.bb_cert.specs.declared.verdict.Why.TheVariants.{Steps}
use Rattle.bb_cert.specs.declared.verdict.Verdict.{Verdict}
use Rattle.bb_cert.specs.declared.verdict.Verdict.TheVariants.{Undecided}
use Rattle.bb_cert.specs.declared.verdict.reader.Line.TheVariants as said
use Rattle.bb_cert.specs.verdict.Line.{IsLineOf}
use Rattle.laws_of_verdicts.specs.Closed.{VerdictLine}
use Rattle.bb_cover.specs.declared.content.Content.{Content}
use Rattle.bb_cover.specs.declared.content.Content.TheVariants.{Claim, Shard}
use Rattle.bb_cover.specs.declared.content.ShardCounts.{ShardCounts}
use Rattle.bb_cover.specs.declared.task.Form.{Form}
use Rattle.bb_cover.specs.declared.task.Form.TheVariants.{Skeleton}

-- a machine, with a verdict or the counts of its shard
pub record Item : Type 0 where
  pub table : Table
  pub content : Content

-- a shard stands in the walk as an undecided machine does: it leads to no other
abbrev pub verdict_of : Content → Verdict
verdict_of (Claim verdict) = verdict
verdict_of (Shard shard) = Undecided Steps

abbrev pub line_of : Item → VerdictLine
line_of item = record { table = item.table; verdict = verdict_of item.content }

abbrev pub lines_of : List Item → List VerdictLine
lines_of [] = []
lines_of (item ∷ items) = line_of item ∷ lines_of items

-- 0 to 9, or a to f
abbrev pub IsHexDigit : ℕ → Type 0
IsHexDigit byte = ((48 ≤ byte) × (byte ≤ 57)) ⊎ ((97 ≤ byte) × (byte ≤ 102))

-- the digest of a shard's file, a SHA-256 in hexadecimal. It names the file, and no clause rests on it
abbrev pub IsDigest : List ℕ → Type 0
IsDigest digest = (length digest ≡ 64) × All IsHexDigit digest

-- a line or more, at most as many undecided ones, and at most as many of those with more than one `---`: so are
-- the counts of every walk
pub record ArePossible (shard : ShardCounts) : Type 0 where
  pub some : 1 ≤ shard.lines
  pub undecided : shard.undecided ≤ shard.lines
  pub wide : shard.wide ≤ shard.undecided

abbrev pub HasCounts : ShardCounts → Type 0
HasCounts shard = (shard.lines < 2 ^ 64) × ArePossible shard

-- the words of a shard, as they stand after its machine and a space: `below N U G SHA256`
abbrev pub shard_text : ShardCounts → List ℕ → List ℕ
shard_text shard digest = codes "below " ++ (decimal shard.lines ++ (32 ∷ (decimal shard.undecided
    ++ (32 ∷ (decimal shard.wide ++ (32 ∷ digest))))))

-- the bytes are the line of this machine and the counts of its shard, with some digest
pub record IsShardLine (table : Table) (shard : ShardCounts) (bytes : List ℕ) : Type 0 where
  pub machine : IsMachine table
  pub numbers : HasCounts shard
  pub digest : List ℕ
  pub is_digest : IsDigest digest
  pub whole : text table ++ (32 ∷ shard_text shard digest) ≡ bytes

abbrev pub IsContentLine : Form → Table → Content → List ℕ → Type 0
IsContentLine form table (Claim verdict) bytes = IsLineOf (said.Claim table verdict) bytes
IsContentLine form table (Shard shard) bytes = (form ≡ Skeleton) × IsShardLine table shard bytes

-- the bytes are the line of this item; shards are in skeletons alone
abbrev pub IsItemLine : Form → Item → List ℕ → Type 0
IsItemLine form item bytes = IsContentLine form item.table item.content bytes
