use Rattle.std.proofs.Common.{sym}
use Rattle.bb_registers.proofs.OneBit.{bit_clear, bit_set, moves}
use Rattle.bb_registers.proofs.registers.Registers.moved_head.Goals as goal

pub returns-then-entry-ne0 : goal.returns-then-entry-ne0
returns-then-entry-ne0 c = sym (moves _ _ 1 (bit_set c.args.entry 7 c.if-entry-ne0.true))

pub returns-else-entry-ne0 : goal.returns-else-entry-ne0
returns-else-entry-ne0 c = sym (moves _ _ 0 (bit_clear c.args.entry 7 c.if-entry-ne0.false))
