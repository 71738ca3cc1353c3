use Rattle.std.proofs.Common.{◌≡◌, ap, eqb, pos, sym, ◌∙◌}
use Rattle.std.proofs.lemmas.Bool.Decides.{Decides-eqb}
use Rattle.bb_tape.proofs.Outcome.{tells}
use Rattle.bb_tape.proofs.window.Window.is_full.Goals as goal

pub returns : goal.returns
returns c =
    let limit = c.args.self.now.limit in
    tells (eqb c.width.result limit) (Decides-eqb c.width.result limit)
    (λ e. ap pos (sym e) ∙ c.width.ensures)
    (λ e. let same : pos c.width.result ≡ pos limit = c.width.ensures ∙ sym e in cc)
