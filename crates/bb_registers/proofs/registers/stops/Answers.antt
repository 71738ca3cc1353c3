use Rattle.bb_registers.proofs.OneBit.{test_set}
use Rattle.bb_registers.proofs.registers.stops.Goals as goal

pub returns : goal.returns
returns c = test_set c.args.entry 8
