use Rattle.bb_registers.proofs.OneBit.{test_set}
use Rattle.bb_registers.proofs.run.RegisterRun.went_right.Goals as goal

pub returns : goal.returns
returns c = test_set c.args.self.now.registers.entry 7
