use Rattle.bb_registers.proofs.OneBit.{test_set}
use Rattle.bb_registers.proofs.registers.halts.Goals as goal

pub returns : goal.returns
returns c = test_set c.args.entry 0
