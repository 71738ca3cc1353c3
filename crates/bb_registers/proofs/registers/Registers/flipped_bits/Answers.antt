use Rattle.std.proofs.Common.{sym}
use Rattle.bb_registers.proofs.OneBit.{bit_clear, bit_set, flips, flips_not}
use Rattle.bb_registers.proofs.registers.Registers.flipped_bits.Goals as goal

pub returns-then-entry-ne0 : goal.returns-then-entry-ne0
returns-then-entry-ne0 c = sym (flips _ _ _ (bit_set c.args.entry 6 c.if-entry-ne0.true))

pub returns-else-entry-ne0 : goal.returns-else-entry-ne0
returns-else-entry-ne0 c = sym (flips_not _ _ _ (bit_clear c.args.entry 6 c.if-entry-ne0.false))
