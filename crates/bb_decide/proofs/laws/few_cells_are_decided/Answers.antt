use Rattle.bb_decide.proofs.FewCells.{few_cells_are_decided}
use Rattle.bb_decide.proofs.laws.few_cells_are_decided.Goals as goal

pub returns : goal.returns
returns c = few_cells_are_decided
