use Rattle.bb_cover.specs.declared.content.Content.{Content}
use Rattle.bb_cover.specs.declared.content.Content.TheVariants.{Claim, Shard}
use Rattle.bb_cover.specs.Content.{IsItemLine}
use Rattle.bb_cover.proofs.content.read_content.Goals as goal

pub returns-in-None-clause-none : goal.returns-in-None-clause-none
returns-in-None-clause-none c = λ item is. by item.table item.content is
  where
    by : (table : _) (content : Content)
        → IsItemLine c.args.form (record { table = table; content = content }) c.args.line.now → ⊥
    by table (Claim verdict) is = (rw c.in_default.is at c.read_verdict.ensures.none) table verdict is
    by table (Shard shard) is = c.in-None.ensures.none table shard is.1
