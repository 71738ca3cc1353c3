use Rattle.bb_tree.proofs.SortedRules.{AreGathered}
use Rattle.bb_tree.proofs.rules.add_all.Given as goal

abbrev pub invariant-loop-state : goal.invariant-loop-state
invariant-loop-state l = AreGathered l.machine l.fn.list.items l.list.items l.starts.items l.state
