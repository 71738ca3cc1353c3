use Rattle.std.proofs.Common.{◌≡◌, ◌+◌, ◌-◌, ◌<◌, ◌++◌, min, take, drop, length, ap, sym, ◌∙◌, arith, w64}
use Rattle.std.proofs.lemmas.Int.{to_z-of_z}
use Rattle.bb_tape.specs.RingIndex.{ring_index}
use Rattle.bb_tape.proofs.Pieces.{long_rest, pieces_are}
use Rattle.bb_tape.proofs.ring.RingTape.pieces.Goals as goal

pub returns : goal.returns
returns c =
    let a = c.args.self.now in
    let at = c.index-at.result in
    let first = c.min-first.result in
    let value = c.as_slice-cells.ensures.value in
    let more : (at + first) - at ≡ first = omega arith in
    let some : 0 < c.args.len = omega (arith, c.if-len-eq0.false) in
    let is = c.index-at.ensures.modulo ∙ ap (ring_index a.window.limit) (to_z-of_z w64 _ c.ranges.from) in
    let cut = c.min-first.ensures ∙ ap (λ n. min c.args.len (n - at)) (ap length value ∙ a.whole) in
    (λ i. take (more i) (drop at (value i)) ++ take (c.args.len - first) (value i))
    ∙ pieces_are a.window c.args.from at is c.args.len c.requires a.cells.items a.whole some
    c.index-at.ensures.within first cut

pub slice_bounds-result-length-2 : goal.slice_bounds-result-length-2
slice_bounds-result-length-2 c =
    let a = c.args.self.now in
    let value = c.as_slice-cells.ensures.value in
    let rest = c.args.len - c.min-first.result in
    let some : 0 < c.args.len = omega (arith, c.if-len-eq0.false) in
    let is = c.index-at.ensures.modulo ∙ ap (ring_index a.window.limit) (to_z-of_z w64 _ c.ranges.from) in
    let cut = c.min-first.ensures
    ∙ ap (λ n. min c.args.len (n - c.index-at.result)) (ap length value ∙ a.whole) in
    sym (ap (λ xs. length (take rest xs)) value
    ∙ long_rest a.window c.args.from c.index-at.result is c.args.len c.requires a.cells.items a.whole some
    c.index-at.ensures.within c.min-first.result cut)
