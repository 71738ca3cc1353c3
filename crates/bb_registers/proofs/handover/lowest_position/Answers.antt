use Rattle.std.proofs.Common.{arith, w64}
use Rattle.std.specs.Int.{trailing_zeros}
use Rattle.std.proofs.lemmas.Int.{ints}
use Rattle.std.proofs.lemmas.Nat.Bits.{bit_at-trailing_zeros}
use Rattle.bb_registers.proofs.handover.lowest_position.Goals as goal

pub returns : goal.returns
returns c =
    let t = bit_at-trailing_zeros w64 c.args.bits c.requires.some (omega arith) in
    record {
      place = trailing_zeros w64 c.args.bits;
      within = t.0;
      position = omega (arith, ints, t.0, c.from.ensures);
      set = t.1;
      lowest = t.2;
    }
