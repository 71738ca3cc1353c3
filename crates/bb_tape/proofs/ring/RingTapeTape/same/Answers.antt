use Rattle.std.proofs.Common.{◌≡◌, ◌∙◌, sym, ap, true, w64}
use Rattle.std.proofs.lemmas.Int.{to_z-of_z}
use Rattle.bb_tape.specs.Content.{cell}
use Rattle.bb_tape.specs.Ring.{ring_content}
use Rattle.bb_tape.proofs.WiderWindows.{low_fits}
use Rattle.bb_tape.proofs.FromPieces.{same_from_parts, zero_unshared}
use Rattle.bb_tape.proofs.ring.RingTapeTape.same.Goals as goal
use Rattle.bb_tape.proofs.ring.RingTapeTape.same.Goals.{then-agrees, else-agrees}

pub returns-then-is_blank_outside : goal.returns-then-is_blank_outside
returns-then-is_blank_outside c =
    let a = c.args.self.now in
    let b = c.args.other.now in
    let s = c.intersection-intersection.result in
    let x = ring_content a.cells.items a.window in
    let y = ring_content b.cells.items b.window in
    let rest = c.is_blank_outside-then-is_blank_outside in (
      λ t.
          elim c.if-agrees.branch [
            | then-agrees w ↦
                same_from_parts x y s.low s.high _ c.width.result (to_z-of_z w64 _ (low_fits s.valid))
                c.width.ensures (c.agrees.ensures.0 w.if-agrees.true)
                (w.is_blank_outside.ensures.0 (sym w.value-is ∙ c.if-is_blank_outside.true))
                (rest.ensures.0 t)
            | else-agrees w ↦ cc
          ],
      λ e.
          rest.ensures.1 (zero_unshared a.cells.items b.cells.items a.window b.window s.low s.high
          c.intersection-intersection.ensures.low c.intersection-intersection.ensures.high e),
    )

pub returns-else-is_blank_outside : goal.returns-else-is_blank_outside
returns-else-is_blank_outside c =
    let a = c.args.self.now in
    let b = c.args.other.now in
    let s = c.intersection-intersection.result in (
      λ t. cc,
      λ e.
          elim c.if-agrees.branch [
            | then-agrees w ↦
                w.value-is ∙ w.is_blank_outside.ensures.1 (λ p outside.
                ap (λ z. cell z p) e
                ∙ zero_unshared a.cells.items b.cells.items a.window b.window s.low s.high
                c.intersection-intersection.ensures.low c.intersection-intersection.ensures.high e p outside)
            | else-agrees w ↦
                (let alike : c.agrees.result ≡ true = c.agrees.ensures.1 (λ k _. rw e) in cc)
          ],
    )
