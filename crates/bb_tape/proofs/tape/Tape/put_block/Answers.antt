use Rattle.std.proofs.Common.{◌∙◌, ◌+◌, ◌/◌, ◌^◌, ◌+ℤ◌, ℕ, pos, ap, arith, bit_and, of_z, subst, sym}
use Rattle.std.proofs.Common.{to_z, w64}
use Rattle.std.proofs.lemmas.Int.{to_z-of_z}
use Rattle.std.proofs.lemmas.Nat.Bits.{shr_and_one}
use Rattle.bb_tape.specs.Block.{PutsBits}
use Rattle.bb_tape.specs.TapeView.{written}
use Rattle.bb_tape.proofs.Blocks.{position_inside, position_is, put_more}
use Rattle.bb_tape.proofs.tape.Tape.put_block.Goals as goal

pub write-requires-clause-inside : goal.write-requires-clause-inside
write-requires-clause-inside g c =
    let puts = c.loop-place.invariant.puts in
    rw (puts.low, puts.high) (position_inside (g.met.Self.Tape.sound c.args.self.now) c.requires c.ranges.from
    c.loop-place-test.true c.from.ensures)

pub loop-place-preserved : goal.loop-place-preserved
loop-place-preserved g c =
    let here = c.loop-place.invariant in
    let sound = g.met.Self.Tape.sound c.args.self.now in
    let is = position_is sound c.requires c.ranges.from c.loop-place-test.true c.from.ensures in
    let same = to_z-of_z w64 _ c.ranges.from in
    let old = g.Self.Tape.view c.args.self.now in
    let mid = g.Self.Tape.view c.loop-place.self in
    let from = to_z w64 (of_z w64 c.args.from) in
    let at = c.loop-place.place in
    let bit : ℕ = bit_and (c.args.bits / 2 ^ at) 1 in
    record {
      few = omega arith;
      puts = subst (λ s. PutsBits old s from c.args.bits (at + 1))
          (sym (c.in-Ok.ensures.ok ∙ ap (λ p. written mid p bit) (is ∙ ap (λ z. z +ℤ pos at) (sym same))))
          (put_more old mid from c.args.bits at bit here.puts (shr_and_one c.args.bits at));
    }
