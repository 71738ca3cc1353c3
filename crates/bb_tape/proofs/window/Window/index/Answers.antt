use Rattle.std.proofs.Common.{◌≡◌, ◌≤ℤ◌, ◌<ℤ◌, ◌+ℤ◌, ℤ, pos, ap, ◌∙◌, to_z, of_z, w64, arith}
use Rattle.std.proofs.lemmas.Int.{ints, to_z-of_z, to_z_pos}
use Rattle.std.specs.Prelude.{unsigned_abs}
use Rattle.bb_tape.proofs.RingIndex.{index_from_zero, index_under_zero, sum_fits}
use Rattle.bb_tape.proofs.window.Window.index.Goals as goal

pub returns-then-p-lt0-clause-modulo : goal.returns-then-p-lt0-clause-modulo
returns-then-p-lt0-clause-modulo c =
    let a = c.args.self.now in
    let p : ℤ = c.args.p in
    let same : to_z w64 (of_z w64 p) ≡ p = to_z-of_z w64 _ c.ranges.p in
    let size : to_z w64 a.limit ≡ pos a.limit = to_z_pos w64 a.limit (omega (arith, a.valid.limited)) in
    let under : p <ℤ pos 0 = let t = rw same at c.if-p-lt0.true in grind (arith, ints, t) in
    ap unsigned_abs ((λ i. to_z w64 (of_z w64 (size i +ℤ same i)))
    ∙ to_z-of_z w64 _ (sum_fits a.low a.high a.limit a.valid p c.requires.low c.requires.high under))
    ∙ index_under_zero a.low a.high a.limit a.valid p c.requires.low c.requires.high under

pub returns-else-p-lt0-clause-modulo : goal.returns-else-p-lt0-clause-modulo
returns-else-p-lt0-clause-modulo c =
    let a = c.args.self.now in
    let p : ℤ = c.args.p in
    let same : to_z w64 (of_z w64 p) ≡ p = to_z-of_z w64 _ c.ranges.p in
    let up : pos 0 ≤ℤ p = let t = rw same at c.if-p-lt0.false in grind (arith, ints, t) in
    ap unsigned_abs same ∙ index_from_zero a.low a.high a.limit a.valid p c.requires.low c.requires.high up
