use Rattle.bb_sim.proofs.FewCells.{few_cells_repeat}
use Rattle.bb_sim.proofs.laws.few_cells_repeat.Goals as goal

pub returns : goal.returns
returns c = few_cells_repeat
