use Rattle.std.proofs.Common.{◌≡◌, ◌∙◌, ◌+ℤ◌, ◌/◌, ◌^◌, ap, arith, bit_and, of_z, pos, sym, to_z, w64}
use Rattle.std.specs.Int.{bit_at}
use Rattle.std.proofs.lemmas.Int.{ints, to_z-of_z}
use Rattle.std.proofs.lemmas.Nat.Bits.{shr_and_one}
use Rattle.bb_tape.specs.Content.{with_cell, cell}
use Rattle.bb_tape.proofs.Facts.{cell-with_cell-same}
use Rattle.bb_decide.specs.Fingerprint.{fingerprint}
use Rattle.bb_decide.proofs.BlockPasses.{changed_back, halfway_before, halfway_first, halfway_last}
use Rattle.bb_decide.proofs.block_pass.fingerprint_of_block.Goals as goal

pub loop-changed-init : goal.loop-changed-init
loop-changed-init g c one middle is half =
    is ∙ ap (fingerprint (g.K.FingerprintKeys.key_of c.args.keys.now)) (halfway_first half)

pub loop-changed-preserved : goal.loop-changed-preserved
loop-changed-preserved g c one middle is half =
    let small = c.lowest_place-place.ensures.small in
    let without = c.bits_without-changed.ensures in
    let k = c.lowest_place-place.result in
    let key = g.K.FingerprintKeys.key_of c.args.keys.now in
    let from = to_z w64 (of_z w64 c.args.from) in
    let at : to_z w64 (of_z w64 (to_z w64 (of_z w64 c.args.from) +ℤ to_z w64 (of_z w64 c.from.result))) ≡ from +ℤ pos k =
    omega (arith, ints, c.from.ensures, small, c.requires.low, c.requires.high) in
    let before = c.loop-changed.invariant one _ is
    (halfway_before small c.lowest_place-place.ensures.set without.cleared without.others half) in
    let put = with_cell middle (from +ℤ pos k) (bit_at c.args.old k) in
    c.update_fingerprint-current.ensures put before
    (ap (cell put) at ∙ cell-with_cell-same middle (from +ℤ pos k) (bit_at c.args.old k)
    ∙ sym (shr_and_one c.args.old k))
    ∙ ap (λ p. fingerprint key (with_cell put p (bit_and (c.args.new / 2 ^ k) 1))) at
    ∙ ap (λ v. fingerprint key (with_cell put (from +ℤ pos k) v)) (shr_and_one c.args.new k)
    ∙ ap (fingerprint key) (changed_back small without.cleared half)

pub returns-then-changed-eq0 : goal.returns-then-changed-eq0
returns-then-changed-eq0 g c one other is changes =
    c.loop-changed.invariant one other is
    (rw (to_z-of_z w64 _ c.ranges.from) (halfway_last changes c.if-changed-eq0.true))
