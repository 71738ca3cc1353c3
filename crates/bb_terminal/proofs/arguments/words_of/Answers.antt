use Rattle.std.proofs.Common.{rules}
use Rattle.std.specs.String.{string_bytes}
use Rattle.std.proofs.lemmas.Iterator.{YieldsList-from_map_by, YieldsList-from_slice}
use Rattle.std.proofs.lemmas.Iterator.Consumers.{YieldsList-at, map_from_collect}
use Rattle.bb_terminal.proofs.arguments.words_of.Goals as goal

pub returns : goal.returns
returns c =
    let texts = YieldsList-from_map_by _ (λ word. word.now) string_bytes
    (YieldsList-at c.map.ensures.source (YieldsList-from_slice c.args.arguments.now c.iter.ensures.rest))
    c.map.ensures.closure
    (λ x r q k. search rules) in
    map_from_collect c.collect.result c.collect.ensures.ran texts
