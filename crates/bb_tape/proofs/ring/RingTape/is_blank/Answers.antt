use Rattle.std.proofs.Common.{◌≡◌, ◌+◌, count_by, ap, sym, ◌∙◌, arith, w64}
use Rattle.std.proofs.lemmas.Int.{to_z-of_z}
use Rattle.std.proofs.lemmas.Bool.Decides.{Decides-eqb}
use Rattle.bb_tape.specs.Ring.{ring_content, symbols}
use Rattle.bb_tape.proofs.Slices.{nonzero}
use Rattle.bb_tape.proofs.FromPieces.{zero_in_pieces, pieces_of_zero}
use Rattle.bb_tape.proofs.ring.RingTape.is_blank.Goals as goal

pub returns-then-count_nonzero-eq0 : goal.returns-then-count_nonzero-eq0
returns-then-count_nonzero-eq0 c =
    let content = ring_content c.args.self.now.cells.items c.args.self.now.window in
    let e = c.pieces.ensures ∙ ap (λ p. symbols content p c.args.len) (to_z-of_z w64 _ c.ranges.from) in
    let xs = c.pieces.result.0.now in
    let ys = c.pieces.result.1.now in
    let count = c.count_nonzero-then-count_nonzero-eq0 in (
      λ t. zero_in_pieces content c.args.from c.args.len xs ys e (sym c.count_nonzero.ensures
          ∙ c.if-count_nonzero-eq0.true) (sym count.ensures ∙ (Decides-eqb count.result 0).0 t),
      λ z.
          let none : count_by nonzero xs + count_by nonzero ys ≡ 0 =
          pieces_of_zero content c.args.from c.args.len xs ys e z in
          let second : count_by nonzero ys ≡ 0 = omega (arith, none) in
          (Decides-eqb count.result 0).1 (count.ensures ∙ second),
    )

pub returns-else-count_nonzero-eq0 : goal.returns-else-count_nonzero-eq0
returns-else-count_nonzero-eq0 c =
    let content = ring_content c.args.self.now.cells.items c.args.self.now.window in
    let e = c.pieces.ensures ∙ ap (λ p. symbols content p c.args.len) (to_z-of_z w64 _ c.ranges.from) in
    let xs = c.pieces.result.0.now in
    let ys = c.pieces.result.1.now in (
      λ t. absurd (c.if-count_nonzero-eq0.false ((Decides-eqb c.count_nonzero.result 0).0 t)),
      λ z.
          let none : count_by nonzero xs + count_by nonzero ys ≡ 0 =
          pieces_of_zero content c.args.from c.args.len xs ys e z in
          let first : count_by nonzero xs ≡ 0 = omega (arith, none) in
          (Decides-eqb c.count_nonzero.result 0).1 (c.count_nonzero.ensures ∙ first),
    )
