use Rattle.bb_run.proofs.FewCells.{few_cells_are_replied}
use Rattle.bb_run.proofs.laws.few_cells_are_replied.Goals as goal

pub returns : goal.returns
returns c = few_cells_are_replied
