use Rattle.std.proofs.Common.{◌≡◌, ◌≢◌, ◌∙◌, ◌-ℤ◌, pos, ap, arith, of_z, sym, to_z, w64}
use Rattle.std.specs.Int.{bit_at}
use Rattle.std.proofs.lemmas.Int.{ints}
use Rattle.std.proofs.lemmas.Nat.Bits.{bit_at-lt, shr_and_one}
use Rattle.bb_tape.specs.Content.{cell, with_cell}
use Rattle.bb_registers.specs.BitCells.{bits_content, bits_from}
use Rattle.bb_registers.proofs.Facts.{at_bit, bit_passed, bit_written, cell-next}
use Rattle.bb_decide.specs.Fingerprint.{fingerprint}
use Rattle.bb_decide.proofs.Fingerprints.{current-blank}
use Rattle.bb_decide.proofs.register_handover.fingerprint_of_bits.Goals as goal

pub loop-place-init : goal.loop-place-init
loop-place-init g c = record { few = omega arith; is = sym (current-blank (g.K.FingerprintKeys.key_of c.args.keys.now)) }

pub loop-place-preserved-then-bits-place-eq0 : goal.loop-place-preserved-then-bits-place-eq0
loop-place-preserved-then-bits-place-eq0 g c =
    let key = g.K.FingerprintKeys.key_of c.args.keys.now in
    let clear : bit_at c.args.bits c.loop-place.place ≡ 0 =
    sym (shr_and_one c.args.bits c.loop-place.place) ∙ c.if-bits-place-eq0.true in
    record {
      few = omega arith;
      is = c.loop-place.invariant.is ∙ ap (fingerprint key) (bit_passed c.args.bits c.loop-place.place clear);
    }

pub loop-place-preserved : goal.loop-place-preserved
loop-place-preserved g c =
    let key = g.K.FingerprintKeys.key_of c.args.keys.now in
    let k = c.loop-place.place in
    let tape = bits_from c.args.bits k in
    let some : bit_at c.args.bits k ≢ 0 =
    λ none. c.if-bits-place-eq0.false (shr_and_one c.args.bits k ∙ none) in
    let set : bit_at c.args.bits k ≡ 1 = omega (arith, bit_at-lt c.args.bits k, some) in
    let at : to_z w64 (of_z w64 (to_z w64 (of_z w64 c.from.result) -ℤ pos 32)) ≡ at_bit k =
    omega (arith, ints, c.from.ensures, c.loop-place-test.true) in
    record {
      few = omega arith;
      is = c.update_fingerprint-fingerprint.ensures tape c.loop-place.invariant.is
          (ap (cell tape) at ∙ cell-next c.args.bits k)
          ∙ ap (λ p. fingerprint key (with_cell tape p 1)) at
          ∙ ap (fingerprint key) (bit_written c.args.bits k set);
    }

pub returns : goal.returns
unfolding bits_content
returns g c =
    let done : c.loop-place.place ≡ 64 = omega arith in
    c.loop-place.invariant.is
    ∙ ap (λ k. fingerprint (g.K.FingerprintKeys.key_of c.args.keys.now) (bits_from c.args.bits k)) done
