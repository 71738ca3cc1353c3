use Rattle.std.proofs.Common.{◌*◌, ap, sym, ◌∙◌}
use Rattle.bb_cover.proofs.Asks.{length-entries_of}
use Rattle.bb_cover.proofs.asked.Asked.count.Goals as goal

pub returns : goal.returns
returns c =
    let asked = c.args.self.now in
    ap (λ n. asked.symbols * n) c.width.ensures
    ∙ sym (length-entries_of asked.is_root asked.states asked.symbols)
