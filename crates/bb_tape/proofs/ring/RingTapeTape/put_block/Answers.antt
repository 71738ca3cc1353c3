use Rattle.std.proofs.Common.{◌≡◌, ◌∙◌, ◌+◌, ◌<◌, ◌≤◌, ℕ, ap, arith, get_or, length, subst, sym, w64}
use Rattle.std.specs.Int.{bit_at}
use Rattle.std.proofs.lemmas.Int.{to_z-of_z}
use Rattle.bb_tape.specs.Block.{PutsBits}
use Rattle.bb_tape.specs.Ring.{IsClear, ring_content}
use Rattle.bb_tape.specs.RingIndex.{ring_index}
use Rattle.bb_tape.specs.TapeView.{IsSound}
use Rattle.bb_tape.specs.Windowed.{view_of}
use Rattle.bb_tape.proofs.Blocks.{block_clear, block_fits, block_put, block_sound}
use Rattle.bb_tape.proofs.RingSteps.{written_back}
use Rattle.bb_tape.proofs.ring.RingTapeTape.put_block.Goals as goal
use Rattle.bb_tape.proofs.ring.RingTapeTape.put_block.Goals.{After-put_bits}

pub put_bits-requires : goal.put_bits-requires
put_bits-requires c =
    let a = c.args.self.now in
    let at = c.index-at.ensures.modulo ∙ ap (ring_index a.window.limit) (to_z-of_z w64 _ c.ranges.from) in
    let fits = block_fits a.window c.args.from c.requires.low c.requires.high c.requires.side in
    omega (arith, at, fits, c.as_mut_slice.ensures.len, a.whole, ap length c.as_mut_slice.ensures.value)

module _ (c : After-put_bits) where
  at_is : c.index-at.result ≡ ring_index c.args.self.now.window.limit c.args.from
  at_is = c.index-at.ensures.modulo ∙ ap (ring_index c.args.self.now.window.limit) (to_z-of_z w64 _ c.ranges.from)

  here : (k : ℕ) → k < 64
      → get_or c.put_bits.new.a (ring_index c.args.self.now.window.limit c.args.from + k) 0 ≡ bit_at c.args.bits k
  here k h = ap (λ i. get_or c.put_bits.new.a (i + k) 0) (sym at_is) ∙ c.put_bits.ensures.here k h

  below : (k : ℕ) → k < ring_index c.args.self.now.window.limit c.args.from
      → get_or c.put_bits.new.a k 0 ≡ get_or c.args.self.now.cells.items k 0
  below k h =
      c.put_bits.ensures.below k (omega (arith, h, at_is))
      ∙ ap (λ xs. get_or xs k 0) c.as_mut_slice.ensures.value

  above : (k : ℕ) → ring_index c.args.self.now.window.limit c.args.from + 64 ≤ k
      → get_or c.put_bits.new.a k 0 ≡ get_or c.args.self.now.cells.items k 0
  above k h =
      c.put_bits.ensures.above k (omega (arith, h, at_is))
      ∙ ap (λ xs. get_or xs k 0) c.as_mut_slice.ensures.value

pub invariant_of-self : goal.invariant_of-self
invariant_of-self c =
    let a = c.args.self.now in
    let after = (goal.at.invariant_of-self c).After-put_bits in
    let written = written_back a.cells.items (c.put_bits.ensures.length ∙ c.as_mut_slice.ensures.len) in
    let low = c.requires.low in
    let high = c.requires.high in
    let side = c.requires.side in
    record {
      whole = ap length written ∙ c.put_bits.ensures.length ∙ ap length c.as_mut_slice.ensures.value ∙ a.whole;
      clear = subst (λ xs. IsClear xs a.window) (sym written)
          (block_clear a.window c.args.from low high side a.cells.items c.put_bits.new.a c.args.bits (here after)
          (below after) (above after) a.clear);
      sound = subst (λ xs. IsSound (view_of (ring_content xs a.window) a.window)) (sym written)
          (block_sound a.window c.args.from low high side a.cells.items c.put_bits.new.a c.args.bits (here after)
          (below after) (above after) a.sound);
    }

pub returns-clause-ok : goal.returns-clause-ok
returns-clause-ok c =
    let a = c.args.self.now in
    let after = (goal.at.returns-clause-ok c).After-put_bits in
    let written = written_back a.cells.items (c.put_bits.ensures.length ∙ c.as_mut_slice.ensures.len) in
    subst
    (λ xs. PutsBits (view_of (ring_content a.cells.items a.window) a.window)
    (view_of (ring_content xs a.window) a.window) c.args.from c.args.bits 64) (sym written)
    (block_put a.window c.args.from c.requires.low c.requires.high c.requires.side a.cells.items c.put_bits.new.a
    c.args.bits (here after) (below after) (above after))
