use Rattle.std.proofs.Common.{◌∙◌, ◌+◌, ap, arith, get_or, length, min, sym, w64}
use Rattle.std.proofs.lemmas.Int.{to_z-of_z}
use Rattle.bb_tape.specs.RingIndex.{ring_index}
use Rattle.bb_tape.proofs.Blocks.{block_cell, block_fits}
use Rattle.bb_tape.proofs.ring.RingTapeTape.block.Goals as goal

pub nonzero_bits-requires : goal.nonzero_bits-requires
nonzero_bits-requires c =
    let a = c.args.self.now in
    let at = c.index.ensures.modulo ∙ ap (ring_index a.window.limit) (to_z-of_z w64 _ c.ranges.from) in
    let fits = block_fits a.window c.args.from c.requires.low c.requires.high c.requires.side in
    omega (arith, at, fits, c.as_slice.ensures.len, a.whole, ap length c.as_slice.ensures.value)

pub returns : goal.returns
returns c k h =
    let a = c.args.self.now in
    let at = c.index.ensures.modulo ∙ ap (ring_index a.window.limit) (to_z-of_z w64 _ c.ranges.from) in
    c.nonzero_bits.ensures k h ∙ ap (λ xs. min 1 (get_or xs (c.index.result + k) 0)) c.as_slice.ensures.value
    ∙ ap (λ i. min 1 (get_or a.cells.items (i + k) 0)) at
    ∙ ap (min 1) (sym (block_cell a.window c.args.from c.requires.low c.requires.high c.requires.side a.cells.items k h))
