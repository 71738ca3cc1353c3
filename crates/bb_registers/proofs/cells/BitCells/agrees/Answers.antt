use Rattle.std.proofs.Common.{◌≡◌, ◌/◌, ◌^◌, ◌+ℤ◌, pos, arith}
use Rattle.std.proofs.lemmas.Int.{ints}
use Rattle.std.proofs.lemmas.Bool.Decides.{Decides-eqb}
use Rattle.bb_registers.proofs.Bits.{low, agree_from_bits, bits_from_agree}
use Rattle.bb_registers.proofs.cells.BitCells.agrees.Goals as goal

pub returns : goal.returns
returns c =
    let a = c.args.self.now.bits in
    let b = c.args.other.now.bits in
    let i = c.place.result in
    let j = c.place-2.result in
    let here : pos i ≡ c.args.from +ℤ pos 32 = omega (arith, ints) in
    let there : pos j ≡ c.args.other_from +ℤ pos 32 = omega (arith, ints) in
    let len = c.args.len in
    let same = Decides-eqb (low (a / 2 ^ i) len) (low (b / 2 ^ j) len) in (
      λ t. agree_from_bits a b i j len _ _ here there c.requires.here c.requires.there (same.0 t),
      λ e. same.1 (bits_from_agree a b i j len _ _ here there c.requires.here c.requires.there e),
    )
