use Rattle.std.proofs.Common.{ap, length, eqb, sym, ◌∙◌}
use Rattle.std.proofs.lemmas.Bool.Decides.{Decides-int_eq, Decides-eqb}
use Rattle.std.proofs.lemmas.Map.Lookups.{btree_map_eq-Decides}
use Rattle.bb_tape.specs.Entries.{content_of}
use Rattle.bb_tape.proofs.MapContent.{same_entries}
use Rattle.bb_tape.proofs.Outcome.{tells}
use Rattle.bb_tape.proofs.map.MapTapeTape.same.Goals as goal

pub returns-then-len : goal.returns-then-len
returns-then-len g c =
    let a = c.args.self.now in
    let b = c.args.other.now in
    let d = btree_map_eq-Decides Decides-int_eq Decides-eqb a.cells b.cells c.eq.result c.eq.ensures in
    tells c.eq.result d (ap content_of)
    (same_entries a.cells b.cells c.len.ensures.ordered c.len-2.ensures.ordered)

pub returns-else-len : goal.returns-else-len
returns-else-len g c =
    let a = c.args.self.now in
    let b = c.args.other.now in
    tells (eqb c.len.result c.len-2.result) (Decides-eqb c.len.result c.len-2.result)
    (λ alike. absurd (c.if-len.false alike))
    (λ e. c.len.ensures.len
    ∙ ap length (same_entries a.cells b.cells c.len.ensures.ordered c.len-2.ensures.ordered e)
    ∙ sym c.len-2.ensures.len)
