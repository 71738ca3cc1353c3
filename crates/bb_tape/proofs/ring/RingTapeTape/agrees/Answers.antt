use Rattle.std.proofs.Common.{ap, sym, ◌∙◌, w64}
use Rattle.std.proofs.lemmas.Int.{to_z-of_z}
use Rattle.bb_tape.specs.Ring.{ring_content, symbols}
use Rattle.bb_tape.proofs.Pieces.{symbols_agree, agree_symbols}
use Rattle.bb_tape.proofs.ring.RingTapeTape.agrees.Goals as goal

pub pieces-requires-2 : goal.pieces-requires-2
pieces-requires-2 c = rw (to_z-of_z w64 _ c.ranges.other_from) c.requires.there

pub returns : goal.returns
returns c =
    let x = ring_content c.args.self.now.cells.items c.args.self.now.window in
    let y = ring_content c.args.other.now.cells.items c.args.other.now.window in
    let here = c.pieces.ensures ∙ ap (λ p. symbols x p c.args.len) (to_z-of_z w64 _ c.ranges.from) in
    let there = c.pieces-2.ensures
    ∙ ap (λ p. symbols y p c.args.len) (to_z-of_z w64 _ c.ranges.other_from) in (
      λ t. symbols_agree x y c.args.from c.args.other_from c.args.len
          (sym here ∙ c.equal_in_pieces.ensures.0 t ∙ there),
      λ agrees.
          c.equal_in_pieces.ensures.1 (here
          ∙ agree_symbols x y c.args.from c.args.other_from c.args.len agrees ∙ sym there),
    )
