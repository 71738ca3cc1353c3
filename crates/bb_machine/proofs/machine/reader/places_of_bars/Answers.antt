use Rattle.std.proofs.Common.{◌≡◌, ◌+◌, ◌∙◌, slice_index, arith, refl, ap, sym, cond, eqb, get_or, length}
use Rattle.std.proofs.lemmas.Bool.{eqb-true, eq-eqb}
use Rattle.std.proofs.lemmas.Simd.{length-chunk, get_or-chunk}
use lib.Lanes.{chunk}
use Rattle.bb_machine.proofs.Lanes.{mask_bit, compared, test_of_bit}
use Rattle.bb_machine.proofs.machine.reader.places_of_bars.Goals as goal

pub returns : goal.returns
returns c k below =
    let v = chunk 0 16 c.args.bytes.now in
    let long : length v ≡ 16 = length-chunk 0 16 c.args.bytes.now c.requires.room in
    let byte : get_or v k 0 ≡ slice_index c.args.bytes.now k =
    get_or-chunk 0 16 c.args.bytes.now k 0 below
    ∙ ap (λ n. get_or c.args.bytes.now n 0) (let from : 0 + k ≡ k = omega arith in from) in
    let bit = mask_bit _ _ k (eqb (get_or v k 0) 95) (compared eqb v 95 long) below refl in (
      λ is. sym byte ∙ eqb-true (get_or v k 0) 95 (test_of_bit (eqb (get_or v k 0) 95) (sym bit ∙ is)),
      λ is. bit ∙ ap (λ b. cond b 1 0) (eq-eqb (get_or v k 0) 95 (byte ∙ is)),
    )
