use Rattle.bb_machine.proofs.LawLemmas.{machine_of_smaller}
use Rattle.bb_machine.proofs.laws.smaller_machines_are_machines.Goals as goal

pub returns : goal.returns
returns c = machine_of_smaller
