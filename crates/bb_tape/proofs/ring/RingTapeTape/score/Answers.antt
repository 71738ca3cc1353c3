use Rattle.std.proofs.Common.{◌+◌, ap, ◌∙◌, w64}
use Rattle.std.proofs.lemmas.Int.{to_z-of_z}
use Rattle.bb_tape.specs.Ring.{ring_content, symbols}
use Rattle.bb_tape.proofs.WiderWindows.{low_fits}
use Rattle.bb_tape.proofs.FromPieces.{score_in_pieces}
use Rattle.bb_tape.proofs.ring.RingTapeTape.score.Goals as goal

pub returns : goal.returns
returns c =
    let a = c.args.self.now in
    let e = c.pieces.ensures
    ∙ ap (λ p. symbols (ring_content a.cells.items a.window) p c.width.result)
    (to_z-of_z w64 _ (low_fits a.window.valid)) in
    (λ i. c.count_nonzero.ensures i + c.count_nonzero-2.ensures i)
    ∙ score_in_pieces a.cells.items a.window c.width.result c.pieces.result.0.now c.pieces.result.1.now
    c.width.ensures e
