use Rattle.std.specs.Map.Iter.{deref_pair}
use Rattle.std.proofs.lemmas.Iterator.Adapters.{fact_from_extend}
use Rattle.std.proofs.lemmas.Iterator.Consumers.{YieldsList-from_rest}
use Rattle.bb_tape.proofs.MapContent.{copied_entries}
use Rattle.bb_tape.proofs.map.copy_entries.Goals as goal

pub returns : goal.returns
returns g c =
    fact_from_extend deref_pair c.extend.result c.extend.ensures.ran
    (λ it b. YieldsList-from_rest c.args.from.now.entries b.0)
    (λ xs e put. copied_entries c.clear.new.self c.args.from.now c.extend.new.self _ c.clear.ensures.empty
    c.extend.ensures.ran.2.5 e put)
