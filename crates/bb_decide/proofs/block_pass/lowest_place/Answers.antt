use Rattle.std.proofs.Common.{arith, w64}
use Rattle.std.proofs.lemmas.Nat.Bits.{bit_at-trailing_zeros}
use Rattle.bb_decide.proofs.block_pass.lowest_place.Goals as goal

pub returns-clause-small : goal.returns-clause-small
returns-clause-small c = (bit_at-trailing_zeros w64 c.args.bits c.requires (omega arith)).0

pub returns-clause-set : goal.returns-clause-set
returns-clause-set c = (bit_at-trailing_zeros w64 c.args.bits c.requires (omega arith)).1
