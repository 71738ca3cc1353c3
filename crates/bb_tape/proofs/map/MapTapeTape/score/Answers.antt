use Rattle.std.proofs.Common.{sym, ◌∙◌}
use Rattle.bb_tape.proofs.MapContent.{score-content_of}
use Rattle.bb_tape.proofs.map.MapTapeTape.score.Goals as goal

pub returns : goal.returns
returns g c = c.len.ensures.len ∙ sym (score-content_of _ c.len.ensures.ordered)
