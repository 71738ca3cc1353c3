use Rattle.std.proofs.Common.{◌≡◌, ◌≤ℤ◌, ◌<ℤ◌, ◌+ℤ◌, ℕ, ℤ, pos, get_or, ap, sym, ◌∙◌, to_z}
use Rattle.std.proofs.Common.{of_z, w64, arith}
use Rattle.std.proofs.lemmas.Int.{ints, to_z-of_z, to_z_pos}
use Rattle.std.proofs.lemmas.Grind.{get_or_default_zero}
use Rattle.std.specs.Prelude.{unsigned_abs}
use Rattle.bb_tape.specs.declared.ring.RingTape.{RingTape}
use Rattle.bb_tape.specs.Content.{cell}
use Rattle.bb_tape.specs.Ring.{ring_content}
use Rattle.bb_tape.specs.RingIndex.{ring_index}
use Rattle.bb_tape.proofs.RingIndex.{index_below, index_from_zero, index_under_zero, sum_fits}
use Rattle.bb_tape.proofs.Rings.{cell-ring-inside}
use Rattle.bb_tape.proofs.ring.RingTapeTape.read_inside.Goals as goal

-- what stands at the index of a position of the window is its cell
reads : (a : RingTape) (p : ℤ) {at value : ℕ} → a.window.low ≤ℤ p → p ≤ℤ a.window.high
    → value ≡ get_or a.cells.items at value → at ≡ ring_index a.window.limit p
    → value ≡ cell (ring_content a.cells.items a.window) p
reads a p {at} {value} low high is modulo =
    let w = a.window in
    let below = index_below w.low w.high w.limit w.valid p low high in
    is ∙ get_or_default_zero a.cells.items at value (omega (arith, below, a.whole, modulo))
    ∙ ap (λ k. get_or a.cells.items k 0) modulo ∙ sym (cell-ring-inside a.cells.items w p low high)

pub returns-then-p-lt0 : goal.returns-then-p-lt0
returns-then-p-lt0 c =
    let w = c.args.self.now.window in
    let p : ℤ = c.args.p in
    let same = to_z-of_z w64 p c.ranges.p in
    let size : to_z w64 w.limit ≡ pos w.limit = to_z_pos w64 w.limit (omega (arith, w.valid.limited)) in
    let under : p <ℤ pos 0 = let t = rw same at c.if-p-lt0.true in grind (arith, ints, t) in
    let modulo = ap unsigned_abs ((λ i. to_z w64 (of_z w64 (size i +ℤ same i)))
    ∙ to_z-of_z w64 _ (sum_fits w.low w.high w.limit w.valid p c.requires.0 c.requires.1 under))
    ∙ index_under_zero w.low w.high w.limit w.valid p c.requires.0 c.requires.1 under in
    reads c.args.self.now p c.requires.0 c.requires.1 c.index.ensures modulo

pub returns-else-p-lt0 : goal.returns-else-p-lt0
returns-else-p-lt0 c =
    let w = c.args.self.now.window in
    let p : ℤ = c.args.p in
    let same = to_z-of_z w64 p c.ranges.p in
    let up : pos 0 ≤ℤ p = let t = rw same at c.if-p-lt0.false in grind (arith, ints, t) in
    let modulo = ap unsigned_abs same
    ∙ index_from_zero w.low w.high w.limit w.valid p c.requires.0 c.requires.1 up in
    reads c.args.self.now p c.requires.0 c.requires.1 c.index-else-p-lt0.ensures modulo
