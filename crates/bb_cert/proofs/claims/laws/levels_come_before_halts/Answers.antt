use Rattle.bb_tree.proofs.Facts.{levels_come_before_halts}
use Rattle.bb_tree.proofs.Facts.{empty_levels_stay, clear_trees_never_halt, tree_has_one_end}
use Rattle.bb_cert.proofs.claims.laws.levels_come_before_halts.Goals as goal

pub returns : goal.returns
returns c = record {
  before = levels_come_before_halts;
  stay = empty_levels_stay;
  never = clear_trees_never_halt;
  one_end = tree_has_one_end;
}
